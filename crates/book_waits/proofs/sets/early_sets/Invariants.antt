use Prim.Native.Nat.{◌≤◌}
use mathlib.Core.Path.{◌≡◌}
use lib.Dec.{leb}
use Rattle.laws.specs.Bits.{sets_to}
use Rattle.plan.specs.Value.{at}
use Rattle.book_waits.proofs.sets.early_sets.Given as goal

abbrev pub invariant-loop-j : goal.invariant-loop-j
invariant-loop-j l = (l.j ≤ l.plan.tasks) × (l.sets ≡ sets_to 64 l.j (λ i k. leb (at l.plan.finish.now k) (at l.plan.begin.now i)))
