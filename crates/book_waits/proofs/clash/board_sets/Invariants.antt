use Prim.Native.Nat.{◌+◌, ◌≤◌}
use mathlib.Core.Path.{◌≡◌}
use lib.Dec.{eqb}
use Rattle.laws.specs.Bits.{sets_to}
use Rattle.plan.specs.Value.{at}
use Rattle.book_waits.proofs.clash.board_sets.Given as goal

abbrev pub invariant-loop-k : goal.invariant-loop-k
invariant-loop-k l = (l.k ≤ l.plan.tasks) × (l.sets ≡ sets_to 8 l.k (λ b i. eqb (b + 1) (at l.plan.board.now i)))
