-- A short name for the least planned start in a lent array.
use Rattle.std.specs.Prelude.{ℕ, true, List}
use Rattle.std.proofs.Math.Option.{get_or}
use Rattle.laws.specs.Picked.{least}
use Rattle.plan.specs.Value.{at}

abbrev pub least_in : List ℕ → ℕ → ℕ
least_in begin tasks = get_or (least tasks (λ k. true) (at begin)) 0
