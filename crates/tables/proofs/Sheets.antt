-- The rows of request P3 hold, and its impostors differ.
use mathlib.Core.Path.{◌≡◌, refl}
use mathlib.Core.Bool.{true, false}
use Rattle.plan.specs.Value.{is_accepted}
use Rattle.ask_sheet.specs.Sheet.{numbers, soonest, sheet_with, sheet_of}
use Rattle.book.specs.declared.Rule.TheVariants.{EarlyStart}
use Rattle.promises.specs.Runs.{SizedPlan}
use Rattle.promises.proofs.Codes.Reading.{reading-sized}
use Rattle.tables.specs.PlanA.{plan_a}
use Rattle.tables.specs.Walk.{walked_on}
use Rattle.tables.specs.Sheets.{sheet_items_a, text_shared, plan_shared, shared_sheet, text_awaits, plan_awaits, awaited_sheet, shared_impostors, awaited_impostors, other_sheets}
use Rattle.tables.proofs.Computing.{computing}
use Rattle.tables.proofs.Plans.{accepted-a, sized_a}
use Rattle.tables.proofs.Quick.{quick, all-walked}

sized-shared : SizedPlan plan_shared
unfolding plan_shared
sized-shared = reading-sized false text_shared

sized-awaits : SizedPlan plan_awaits
unfolding plan_awaits
sized-awaits = reading-sized false text_awaits

accepted-shared : is_accepted plan_shared ≡ true
unfolding computing plan_shared
accepted-shared = refl

accepted-awaits : is_accepted plan_awaits ≡ true
unfolding computing plan_awaits
accepted-awaits = refl

pub sheet-items-a : walked_on plan_a EarlyStart sheet_items_a ≡ true
unfolding computing quick numbers soonest sheet_with sheet_of
sheet-items-a = all-walked plan_a EarlyStart sized_a accepted-a sheet_items_a refl

pub shared-sheet : walked_on plan_shared EarlyStart shared_sheet ≡ true
unfolding computing quick plan_shared numbers soonest sheet_with sheet_of
shared-sheet = all-walked plan_shared EarlyStart sized-shared accepted-shared shared_sheet refl

pub awaited-sheet : walked_on plan_awaits EarlyStart awaited_sheet ≡ true
unfolding computing quick plan_awaits numbers soonest sheet_with sheet_of
awaited-sheet = all-walked plan_awaits EarlyStart sized-awaits accepted-awaits awaited_sheet refl

-- beside the right answers above, on the same books
pub shared-impostors : walked_on plan_shared EarlyStart shared_impostors ≡ true
unfolding computing quick plan_shared numbers soonest sheet_with sheet_of
shared-impostors = all-walked plan_shared EarlyStart sized-shared accepted-shared shared_impostors refl

pub awaited-impostors : walked_on plan_awaits EarlyStart awaited_impostors ≡ true
unfolding computing quick plan_awaits numbers soonest sheet_with sheet_of
awaited-impostors = all-walked plan_awaits EarlyStart sized-awaits accepted-awaits awaited_impostors refl

pub other-sheets : walked_on plan_a EarlyStart other_sheets ≡ true
unfolding computing quick plan_shared numbers soonest sheet_with sheet_of
other-sheets = all-walked plan_a EarlyStart sized_a accepted-a other_sheets refl
