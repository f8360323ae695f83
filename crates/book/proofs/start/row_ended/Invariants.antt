use Rattle.book.specs.Private.Table.{has_ended}
use Rattle.plan.specs.Value.{at}
use Rattle.laws.specs.Every.{every}
use mathlib.Core.Bool.{true}
use mathlib.Core.Path.{◌≡◌}
use Prim.Native.Nat.{◌≤◌}
use Rattle.book.proofs.start.row_ended.Given as goal

abbrev pub invariant-loop-j : goal.invariant-loop-j
invariant-loop-j l = (l.j ≤ 8) × (every l.j (λ x. has_ended (at l.mark) (at l.row x)) ≡ true)
