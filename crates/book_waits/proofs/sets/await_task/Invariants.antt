use Prim.Native.Nat.{◌^◌, ◌≤◌}
use mathlib.Core.Bool.{cond}
use mathlib.Core.Path.{◌≡◌}
use lib.Bits.{bit_or}
use lib.Dec.{leb}
use Rattle.laws.specs.Each.{each}
use Rattle.plan.specs.Value.{at}
use Rattle.book_waits.proofs.sets.await_task.Given as goal

abbrev pub invariant-loop-i : goal.invariant-loop-i
invariant-loop-i l =
    (l.i ≤ 64) × (l.sets ≡ each l.i (λ k. bit_or (at l.initial.sets k) (cond (leb l.tick (at l.begin k)) (2 ^ l.j) 0)) l.initial.sets)
