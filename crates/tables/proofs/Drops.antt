-- The rows of request P9 hold.
use mathlib.Core.Path.{◌≡◌, refl}
use mathlib.Core.Bool.{true}
use Rattle.book.specs.declared.Rule.TheVariants.{EarlyStart}
use Rattle.tables.specs.PlanA.{plan_a}
use Rattle.tables.specs.Walk.{walked_on}
use Rattle.tables.specs.Drops.{drop_items}
use Rattle.tables.proofs.Computing.{computing}
use Rattle.tables.proofs.Plans.{accepted-a, sized_a}
use Rattle.tables.proofs.Quick.{quick, all-walked}

pub dropped-items : walked_on plan_a EarlyStart drop_items ≡ true
unfolding computing quick
dropped-items = all-walked plan_a EarlyStart sized_a accepted-a drop_items refl
