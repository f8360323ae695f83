-- The starred items hold.
use mathlib.Core.Path.{◌≡◌, refl}
use mathlib.Core.Bool.{true}
use Rattle.book.specs.declared.Rule.TheVariants.{EarlyStart}
use Rattle.promises.specs.Runs.{opened_book}
use Rattle.tables.specs.PlanA.{plan_a}
use Rattle.tables.specs.Walk.{walk}
use Rattle.tables.specs.Starred.{starred_items}
use Rattle.tables.proofs.Computing.{computing}
use Rattle.tables.proofs.Plans.{accepted-a, sized_a}
use Rattle.tables.proofs.Quick.{quick, walked}

pub starred : walk (opened_book plan_a EarlyStart) starred_items ≡ true
unfolding computing quick
starred = walked plan_a EarlyStart sized_a accepted-a starred_items refl
