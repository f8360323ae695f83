use Rattle.book.proofs.TableLaws.{table_none, table-row, table-skip}
use lib.ListN.{length, length-set}
use native.Mathlib.Omega.{arith}
use mathlib.Core.Path.{◌≡◌}
use Prim.Native.Nat.{◌<◌}
use borrow.Author.Rules.{rules}
use Rattle.book.proofs.table.last_tasks.Goals as goal
use Rattle.book.proofs.table.last_tasks.Goals.{else-mark-i-eq0, then-mark-i-eq0}

pub loop-i-init : goal.loop-i-init
loop-i-init c = (omega arith, search rules, table_none _ _ _ _)

pub row_of-requires : goal.row_of-requires
row_of-requires c = record { tasks_bound = (omega arith, omega arith); on_eight = c.requires.on_eight }

pub loop-i-preserved : goal.loop-i-preserved
loop-i-preserved c = let few : c.loop-i.i < length c.loop-i.last = omega arith in
    elim c.if-mark-i-eq0.branch [ then-mark-i-eq0 w ↦ (omega arith, rw w.last-is (simp length-set c.loop-i.invariant.1), rw w.last-is (table-row _ _ _ _ _ c.loop-i.invariant.2 _ few w.row_of.ensures)) | else-mark-i-eq0 w ↦ (omega arith, rw w.last-is c.loop-i.invariant.1, rw w.last-is (table-skip _ _ _ _ _ c.loop-i.invariant.2 w.if-mark-i-eq0.false)) ]

pub returns : goal.returns
returns c = let e : c.loop-i.i ≡ c.args.book.now.tasks = omega arith in rw e at c.loop-i.invariant.2
