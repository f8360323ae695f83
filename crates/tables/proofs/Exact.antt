-- The rows of request P13 hold, and its impostors differ.
use mathlib.Core.Path.{◌≡◌, refl}
use mathlib.Core.Bool.{true, false}
use Rattle.theory.specs.Times.{ends_by}
use Rattle.theory.specs.Exact.{exact_early}
use Rattle.plan.specs.Value.{is_accepted}
use Rattle.book.specs.declared.Rule.TheVariants.{EarlyStart}
use Rattle.promises.specs.Runs.{SizedPlan}
use Rattle.promises.proofs.Codes.Reading.{reading-sized}
use Rattle.tables.specs.PlanA.{plan_a}
use Rattle.tables.specs.Walk.{walked_on}
use Rattle.tables.specs.Exact.{text_gaps, plan_gaps, exact_items, gap_items}
use Rattle.tables.proofs.Computing.{computing}
use Rattle.tables.proofs.Plans.{accepted-a, sized_a}
use Rattle.tables.proofs.Quick.{quick, all-walked}

sized-gaps : SizedPlan plan_gaps
unfolding plan_gaps
sized-gaps = reading-sized false text_gaps

accepted-gaps : is_accepted plan_gaps ≡ true
unfolding computing plan_gaps
accepted-gaps = refl

pub exact-items : walked_on plan_a EarlyStart exact_items ≡ true
unfolding computing quick exact_early ends_by
exact-items = all-walked plan_a EarlyStart sized_a accepted-a exact_items refl

pub gap-items : walked_on plan_gaps EarlyStart gap_items ≡ true
unfolding computing quick plan_gaps exact_early ends_by
gap-items = all-walked plan_gaps EarlyStart sized-gaps accepted-gaps gap_items refl
