use mathlib.Core.Path.{◌≡◌}
use mathlib.Core.Bool.{true}
use Rattle.laws.specs.Every.{every}
use Rattle.plan.specs.Value.{kept_ok}
use Rattle.plan.specs.View.{viewed}
use Rattle.plan_ranges.proofs.all_kept.Given as goal

abbrev pub invariant-loop-k : goal.invariant-loop-k
invariant-loop-k l =
    every l.k (kept_ok (viewed l.plan)) ≡ true
