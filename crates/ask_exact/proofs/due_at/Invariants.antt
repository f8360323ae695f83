use Rattle.plan.specs.Value.{at}
use Rattle.laws.specs.Bits.{has}
use Rattle.laws.specs.Picked.{latest}
use mathlib.Core.Path.{◌≡◌}
use Prim.Native.Nat.{◌≤◌}
use Rattle.ask_exact.proofs.due_at.Given as goal

abbrev pub invariant-loop-j : goal.invariant-loop-j
invariant-loop-j l = (l.j ≤ l.tasks) × (l.last ≡ latest l.j (has l.awaited) (at l.ends))
