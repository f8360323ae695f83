use Rattle.book.specs.Private.Table.{plan_by, RowTo}
use Rattle.plan.specs.Value.{at}
use lib.ListN.{length}
use mathlib.Core.Path.{◌≡◌}
use Prim.Native.Nat.{◌≤◌}
use Rattle.book.proofs.table.row_of.Given as goal

abbrev pub invariant-loop-k : goal.invariant-loop-k
invariant-loop-k l = (l.k ≤ l.book.tasks) × (length l.row ≡ 8) × (RowTo (plan_by l.book l.waits) (at l.book.board) l.i l.k l.row)
