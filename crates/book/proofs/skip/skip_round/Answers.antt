use Rattle.book.proofs.SkipLaws.{round-none, round-skips, round-stays, some-picked, some-passed, some-skipped, none-skipped}
use Rattle.laws.specs.Every.{any}
use native.Mathlib.Omega.{arith}
use mathlib.Core.Path.{◌≡◌, refl, sym, ◌∙◌}
use Rattle.book.proofs.skip.skip_round.Goals as goal
use Rattle.book.proofs.skip.skip_round.Goals.{else-may_skip, then-may_skip}

pub loop-i-init : goal.loop-i-init
unfolding any
loop-i-init c = (omega arith, round-none _ _ _ _, refl)

pub may_skip-requires : goal.may_skip-requires
may_skip-requires c = record { i_bound = omega arith; small_row = λ z. c.requires.1 c.loop-i.i (omega arith) z }

pub loop-i-preserved : goal.loop-i-preserved
loop-i-preserved c = elim c.if-may_skip.branch [ then-may_skip w ↦ (omega arith, w.next-is ∙ round-skips _ _ _ _ _ c.loop-i.invariant.1 (sym c.may_skip.ensures ∙ w.if-may_skip.true), w.some-is ∙ some-picked _ _ (sym c.may_skip.ensures ∙ w.if-may_skip.true)) | else-may_skip w ↦ (omega arith, w.next-is ∙ round-stays _ _ _ _ _ c.loop-i.invariant.1 (sym c.may_skip.ensures ∙ w.if-may_skip.false), w.some-is ∙ some-passed _ _ c.loop-i.invariant.2 (sym c.may_skip.ensures ∙ w.if-may_skip.false)) ]

pub returns-then-some : goal.returns-then-some
returns-then-some c =
    let e : c.loop-i.i ≡ c.args.book.now.tasks = omega arith in
    some-skipped _ _ _ _ _ (rw e at c.loop-i.invariant.2) c.if-some.true (rw e at c.loop-i.invariant.1)

pub returns-else-some : goal.returns-else-some
returns-else-some c =
    let e : c.loop-i.i ≡ c.args.book.now.tasks = omega arith in none-skipped c.args.book.now.dropped c.args.last.now c.args.clock c.args.book.now.tasks c.args.old (rw e at c.loop-i.invariant.2) c.if-some.false
