-- Each impostor of the figure and of the reader differs from what is defined.
use mathlib.Core.Path.{◌≡◌, refl}
use mathlib.Core.Bool.{true}
use Rattle.plan.specs.Read.{reading_of}
use Rattle.book.specs.declared.Rule.TheVariants.{EarlyStart}
use Rattle.tables.specs.PlanA.{text_a, plan_a}
use Rattle.tables.specs.Walk.{walked_on}
use Rattle.tables.specs.Impostors.{figure_impostors, fixed_reader, text_one}
use Rattle.tables.proofs.Computing.{computing}
use Rattle.tables.proofs.Plans.{accepted-a, sized_a}
use Rattle.tables.proofs.Quick.{quick, all-walked}

pub figure-impostors : walked_on plan_a EarlyStart figure_impostors ≡ true
unfolding computing quick
figure-impostors = all-walked plan_a EarlyStart sized_a accepted-a figure_impostors refl

-- the small text is accepted with 1 task where the fixed plan has 5; plan A's text is not refused
pub reader-impostors :
    ((reading_of text_one).answer.code ≡ 0)
    × ((reading_of text_one).plan.tasks ≡ 1)
    × ((fixed_reader text_one).plan.tasks ≡ 5)
    × ((reading_of text_a).answer.code ≡ 0)
unfolding computing
reader-impostors = (refl, refl, refl, refl)
