-- Of numbers that apply at once the first is given.
use mathlib.Core.Path.{◌≡◌, refl}
use mathlib.Core.Bool.{true}
use Rattle.laws.specs.Lists.{all_of}
use Rattle.plan.specs.Answer.{refuse}
use Rattle.plan.specs.Value.{zero_plan}
use Rattle.plan.specs.Write.{write_answer}
use Rattle.book.specs.declared.Rule.TheVariants.{EarlyStart}
use Rattle.tables.specs.PlanA.{plan_a}
use Rattle.tables.specs.Texts.{answered}
use Rattle.tables.specs.Walk.{walked_on}
use Rattle.tables.specs.Orders.{report_order, plan_ahead, ahead_order, unsound_order, text_order}
use Rattle.tables.proofs.Computing.{computing}
use Rattle.tables.proofs.Plans.{accepted-a, accepted-ahead, sized_a, sized-ahead}
use Rattle.tables.proofs.Quick.{quick, all-walked}

pub report-order : walked_on plan_a EarlyStart report_order ≡ true
unfolding computing quick
report-order = all-walked plan_a EarlyStart sized_a accepted-a report_order refl

pub ahead-order : walked_on plan_ahead EarlyStart ahead_order ≡ true
unfolding computing plan_ahead quick
ahead-order = all-walked plan_ahead EarlyStart sized-ahead accepted-ahead ahead_order refl

pub unsound-order : walked_on zero_plan EarlyStart unsound_order ≡ true
unfolding computing
unsound-order = refl

pub text-order : all_of answered text_order ≡ true
unfolding computing
text-order = refl

-- a plan that is not accepted, and no room: 9 before 16
pub writer-order : write_answer zero_plan 0 ≡ refuse 9 0 0
unfolding computing
writer-order = refl
