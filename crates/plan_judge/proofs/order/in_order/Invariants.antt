use mathlib.Core.Path.{◌≡◌}
use mathlib.Core.Bool.{true}
use Rattle.laws.specs.Every.{every}
use Rattle.plan.specs.View.{viewed}
use Rattle.plan_judge.specs.Private.Arrays.{row_in_order}
use Rattle.plan_judge.proofs.order.in_order.Given as goal

abbrev pub invariant-loop-k : goal.invariant-loop-k
invariant-loop-k l = every l.k (row_in_order (viewed l.plan)) ≡ true
