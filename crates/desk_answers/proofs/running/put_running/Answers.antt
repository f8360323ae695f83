use Prim.Native.Nat.{ℕ}
use mathlib.Core.Path.{◌≡◌, subst}
use native.Mathlib.Omega.{arith}
use Rattle.desk_answers.proofs.LineLaws.{Below, run_none, run-passes, run-goes}
use borrow.Author.Rules.{rules}
use Rattle.desk_answers.proofs.running.put_running.Goals as goal
use Rattle.desk_answers.proofs.running.put_running.Goals.{then-book-i-eq1, else-book-i-eq1}

pub loop-i-init : goal.loop-i-init
loop-i-init c = (search rules, search rules, run_none c.args.book.now c.args.out.now)

pub short_limit-limit-requires : goal.short_limit-limit-requires
short_limit-limit-requires c = c.requires.2 _ (omega (arith, c.loop-i-test.true, c.from-tasks.ensures)) c.if-book-i-eq1.true

pub overflow_add-count : goal.overflow_add-count
overflow_add-count c = let r = c.loop-i.invariant.2 in omega (arith, r.few, c.loop-i.invariant.0, c.requires.0, c.from-tasks.ensures)

pub loop-i-preserved : goal.loop-i-preserved
loop-i-preserved c =
    let inv = c.loop-i.invariant in
    elim c.if-book-i-eq1.branch [
      | then-book-i-eq1 w ↦ (
        search rules,
        search rules,
        rw (w.out-is, w.place-is, w.count-is)
            (run-goes c.args.book.now inv.2 w.if-book-i-eq1.true
            (omega (arith, inv.2.wrote.place, inv.2.wrote.small, inv.0, inv.1, c.loop-i-test.true, c.requires.0, c.requires.1, c.from-tasks.ensures))
            w.short_limit-limit.ensures w.put_runs-place.ensures),
      )
      | else-book-i-eq1 w ↦ (search rules, search rules, rw (w.out-is, w.place-is, w.count-is) (run-passes c.args.book.now inv.2 w.if-book-i-eq1.false))
    ]

pub shape_of-out : goal.shape_of-out
shape_of-out c = c.loop-i.invariant.1

pub returns : goal.returns
returns c =
    let loop = c.loop-i in
    let e : loop.i ≡ c.args.book.now.tasks = omega (arith, loop.invariant.0, c.loop-i-test.false, c.from-tasks.ensures) in
    subst (λ (n : ℕ). Below c.args.book.now n c.args.out.now loop.out loop.place loop.count) e loop.invariant.2
