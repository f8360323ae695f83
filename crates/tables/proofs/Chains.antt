-- The rows of request P7 and its impostors, by computation.
use mathlib.Core.Bool.{true}
use mathlib.Core.Path.{◌≡◌, refl}
use Rattle.book.specs.declared.Rule.TheVariants.{EarlyStart, Clash}
use Rattle.tables.specs.PlanA.{plan_a}
use Rattle.tables.specs.Ready.{plan_b}
use Rattle.tables.specs.Clash.{plan_c}
use Rattle.tables.specs.Chains.{plan_d, chains_a, chains_b, chains_c, chains_d}
use Rattle.tables.specs.Walk.{walked_on}
use Rattle.tables.proofs.Computing.{computing}
use Rattle.tables.proofs.Plans.{accepted-a, sized_a, accepted-b, sized_b, accepted-c, sized-c, accepted-d, sized-d}
use Rattle.tables.proofs.Quick.{quick, all-walked}

-- by Early Start, edition 1
pub chains-a : walked_on plan_a EarlyStart chains_a ≡ true
unfolding computing quick
chains-a = all-walked plan_a EarlyStart sized_a accepted-a chains_a refl

-- by Early Start, edition 2
pub chains-b : walked_on plan_b EarlyStart chains_b ≡ true
unfolding computing quick
chains-b = all-walked plan_b EarlyStart sized_b accepted-b chains_b refl

-- by the clash rule
pub chains-c : walked_on plan_c Clash chains_c ≡ true
unfolding computing quick
chains-c = all-walked plan_c Clash sized-c accepted-c chains_c refl

pub chains-d : walked_on plan_d Clash chains_d ≡ true
unfolding computing quick
chains-d = all-walked plan_d Clash sized-d accepted-d chains_d refl
