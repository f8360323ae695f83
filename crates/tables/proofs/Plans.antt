-- The plans of the tables have the arrays' lengths and are accepted.
use mathlib.Core.Path.{◌≡◌, refl}
use mathlib.Core.Bool.{true, false}
use Rattle.plan.specs.Value.{is_accepted}
use Rattle.promises.specs.Runs.{SizedPlan}
use Rattle.promises.proofs.Codes.Reading.{reading-sized}
use Rattle.tables.specs.PlanA.{text_a, plan_a}
use Rattle.tables.specs.Dispatchers.{text_four, plan_four}
use Rattle.tables.specs.Weaker.{text_two, plan_two}
use Rattle.tables.specs.Ready.{text_b, plan_b}
use Rattle.tables.specs.Clash.{text_c, plan_c}
use Rattle.tables.specs.Chains.{text_d, plan_d}
use Rattle.tables.specs.Orders.{text_ahead, plan_ahead}
use Rattle.tables.proofs.Computing.{computing}

pub sized_a : SizedPlan plan_a
unfolding plan_a
sized_a = reading-sized false text_a

pub sized_b : SizedPlan plan_b
unfolding plan_b
sized_b = reading-sized false text_b

pub sized-c : SizedPlan plan_c
unfolding plan_c
sized-c = reading-sized false text_c

pub sized-d : SizedPlan plan_d
unfolding plan_d
sized-d = reading-sized false text_d

pub sized-ahead : SizedPlan plan_ahead
unfolding plan_ahead
sized-ahead = reading-sized false text_ahead

pub sized-two : SizedPlan plan_two
unfolding plan_two
sized-two = reading-sized false text_two

pub sized-four : SizedPlan plan_four
unfolding plan_four
sized-four = reading-sized false text_four

pub accepted-a : is_accepted plan_a ≡ true
unfolding computing
accepted-a = refl

pub accepted-b : is_accepted plan_b ≡ true
unfolding computing
accepted-b = refl

pub accepted-c : is_accepted plan_c ≡ true
unfolding computing
accepted-c = refl

pub accepted-ahead : is_accepted plan_ahead ≡ true
unfolding computing plan_ahead
accepted-ahead = refl

pub accepted-two : is_accepted plan_two ≡ true
unfolding computing
accepted-two = refl

pub accepted-four : is_accepted plan_four ≡ true
unfolding computing
accepted-four = refl

pub accepted-d : is_accepted plan_d ≡ true
unfolding computing
accepted-d = refl
