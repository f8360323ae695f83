-- The rows of request P12 hold, and its impostors differ.
use mathlib.Core.Path.{◌≡◌, refl}
use mathlib.Core.Bool.{true, false}
use Rattle.laws.specs.Lists.{all_of}
use Rattle.plan.specs.Answer.{refuse}
use Rattle.plan.specs.Value.{at, is_accepted}
use Rattle.plan.specs.Read.{mended_of}
use Rattle.plan.specs.Convert.{converted_of}
use Rattle.text.specs.Bytes.{bytes}
use Rattle.plan_convert.specs.Renewed.{renewed_text}
use Rattle.tables.specs.Texts.{answered, mended_says}
use Rattle.tables.specs.Shared.{shared_rows, mended_rows, text_old, text_sharing, text_mixed, plan_old, plan_sharing, text_new, text_mended, kept_shared, lost_ready, unjudged, text_both, ready_first}
use Rattle.promises.specs.Says.{codes_of}
use Rattle.text_fields.specs.Faults.{worst}
use Rattle.tables.proofs.Computing.{computing}

pub shared-rows : (all_of answered shared_rows ≡ true) × (all_of mended_says mended_rows ≡ true)
unfolding computing
shared-rows = (refl, refl)

-- an edition 1 text converted, one whose conversion meets 7, and an edition 2 text mended
pub converted-texts :
    (renewed_text text_old ≡ text_new) × (renewed_text text_sharing ≡ bytes "refused\t7\t2\t3\n") × (renewed_text text_mixed ≡ text_mended)
unfolding computing plan_old plan_sharing
converted-texts = (refl, refl, refl)

-- an `s` that is kept is not accepted in edition 2
pub kept-impostor : (is_accepted plan_old ≡ true) × (is_accepted kept_shared ≡ false)
unfolding computing plan_old
kept-impostor = (refl, refl)

-- task 2 is ready at 3, and would be so at 0
pub ready-lost-impostor : (at (mended_of text_mixed).plan.ready 1 ≡ 3) × (at lost_ready.ready 1 ≡ 0)
unfolding computing
ready-lost-impostor = (refl, refl)

-- judged anew tasks 2 and 3 clash; unjudged they would be granted, in a plan that is not accepted
pub unjudged-impostor :
    ((converted_of plan_sharing).answer ≡ refuse 7 2 3) × ((unjudged plan_sharing).answer.code ≡ 0) × (is_accepted (unjudged plan_sharing).plan ≡ false)
unfolding computing plan_sharing
unjudged-impostor = (refl, refl, refl)

-- an edition 2 plan gets 9, though it would be judged faultless
pub taken-impostor :
    ((converted_of (converted_of plan_old).plan).answer ≡ refuse 9 0 0) × (is_accepted (unjudged (converted_of plan_old).plan).plan ≡ true)
unfolding computing plan_old
taken-impostor = (refl, refl)

-- of a line with 18 and 20 the code is 20
pub ready-first-impostor : (worst (codes_of false text_both 1) ≡ 20) × (ready_first (codes_of false text_both 1) ≡ 18)
unfolding computing
ready-first-impostor = (refl, refl)
