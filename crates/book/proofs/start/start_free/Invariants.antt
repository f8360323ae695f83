use Rattle.book.specs.Private.Table.{starts_by}
use Rattle.plan.specs.Value.{at}
use mathlib.Core.Path.{◌≡◌}
use Prim.Native.Nat.{◌≤◌}
use Rattle.book.proofs.start.start_free.Given as goal

abbrev pub invariant-loop-i : goal.invariant-loop-i
invariant-loop-i l = (l.i ≤ l.book.tasks) × (l.next ≡ starts_by (at l.book.ready) l.last l.clock l.i l.initial.next)
