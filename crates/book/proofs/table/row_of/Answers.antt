use Rattle.book.proofs.TableLaws.{row-none, row-passed, row-taken, row_small}
use Rattle.book_view.proofs.Turns.{bit-seen}
use lib.ListN.{length-set, get_or-replicate}
use native.Mathlib.Omega.{arith}
use mathlib.Core.Path.{◌≡◌, sym, ◌∙◌}
use Prim.Native.Nat.{ℕ, ◌≤◌}
use borrow.Author.Rules.{rules}
use Rattle.book.proofs.table.row_of.Goals as goal
use Rattle.book.proofs.table.row_of.Goals.{else-is_in, then-is_in}

pub loop-k-init : goal.loop-k-init
loop-k-init c = (omega arith, search rules, row-none _ _ _ _ (λ j l. get_or-replicate {A = ℕ} 8 j 0 0 l))

pub overflow_sub-book : goal.overflow_sub-book
overflow_sub-book c = omega (arith, c.requires.on_eight c.loop-k.k (omega arith))

pub from-j-requires : goal.from-j-requires
from-j-requires c = omega (arith, c.requires.on_eight c.loop-k.k (omega arith))

pub bounds-row-j : goal.bounds-row-j
bounds-row-j c = omega (arith, c.requires.on_eight c.loop-k.k (omega arith))

pub later_of-requires : goal.later_of-requires
later_of-requires c = let few : c.loop-k.k ≤ 64 = omega arith in let o = c.requires.on_eight c.loop-k.k (omega arith) in (row_small _ _ _ _ _ few c.loop-k.invariant.2 _ (omega arith), omega arith)

pub bounds-row-j-then-is_in : goal.bounds-row-j-then-is_in
bounds-row-j-then-is_in c = omega (arith, c.requires.on_eight c.loop-k.k (omega arith))

pub loop-k-preserved : goal.loop-k-preserved
loop-k-preserved c = let seen = bit-seen c.loop-k.k _ (omega arith) c.is_in.ensures in
    let o = c.requires.on_eight c.loop-k.k (omega arith) in
    elim c.if-is_in.branch [
      | then-is_in w ↦ (
        omega arith,
        rw w.row-is (simp length-set c.loop-k.invariant.1),
        rw w.row-is (row-taken _ _ _ _ _ _ _ c.loop-k.invariant.2 (sym seen ∙ w.if-is_in.true) (omega arith) (omega arith) (omega arith) w.later_of.ensures),
      )
      | else-is_in w ↦ (omega arith, rw w.row-is c.loop-k.invariant.1, rw w.row-is (row-passed _ _ _ _ _ c.loop-k.invariant.2 (sym seen ∙ w.if-is_in.false)))
    ]

pub returns : goal.returns
returns c = let e : c.loop-k.k ≡ c.args.book.now.tasks = omega arith in rw e at c.loop-k.invariant.2
