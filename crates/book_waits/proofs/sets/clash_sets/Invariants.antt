use Prim.Native.Nat.{◌≤◌}
use mathlib.Core.Path.{◌≡◌}
use Rattle.plan.specs.View.{viewed}
use Rattle.book_waits.specs.Private.Arrays.{clash_sets}
use Rattle.book_waits.proofs.sets.clash_sets.Given as goal

abbrev pub invariant-loop-i : goal.invariant-loop-i
invariant-loop-i l = (l.i ≤ l.plan.tasks) × (l.sets ≡ clash_sets l.initial.sets (viewed l.plan) l.i)
