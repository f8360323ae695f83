use Rattle.book.specs.Private.Table.{plan_by, TableTo}
use Rattle.plan.specs.Value.{at}
use lib.ListN.{length}
use mathlib.Core.Path.{◌≡◌}
use Prim.Native.Nat.{◌≤◌}
use Rattle.book.proofs.table.last_tasks.Given as goal

abbrev pub invariant-loop-i : goal.invariant-loop-i
invariant-loop-i l = (l.i ≤ l.book.tasks) × (length l.last ≡ 64) × (TableTo (plan_by l.book l.waits) (at l.book.board) (at l.mark) l.i l.last)
