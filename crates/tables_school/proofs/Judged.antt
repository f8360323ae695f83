-- The judge's rows, by computation.
use mathlib.Core.Bool.{true, false}
use mathlib.Core.List.{[]}
use mathlib.Core.Path.{◌≡◌, refl}
use Rattle.text.specs.Bytes.{bytes}
use Rattle.plan.specs.Answer.{refuse}
use Rattle.plan.specs.Value.{zero_plan}
use Rattle.school.specs.Lines.{later_said}
use Rattle.school.specs.Tests.{judged_of}
use Rattle.school.specs.Text.{judged_log}
use Rattle.tables_school.specs.Judged.{text_a, all_judged, judged_rows, empty_lines}
use Rattle.tables_school.proofs.Computing.{computing}

pub judged-rows : all_judged judged_rows ≡ true
unfolding computing
judged-rows = refl

-- a plan that is not accepted
pub refused_plan : (judged_of zero_plan []).answer ≡ refuse 9 0 0
unfolding computing
refused_plan = refl

-- a task past T where T is 63, and the last one where it is 64
pub past-last :
    ((later_said 8 63 (bytes "start\t64\t1\t0\t0")).formed ≡ false) × ((later_said 8 64 (bytes "start\t64\t1\t0\t0")).formed ≡ true)
unfolding computing
past-last = (refl, refl)

-- 32,768 bytes are read, and line 1 has not its form; one more is too long
pub judged-limit :
    (judged_log text_a (empty_lines 32768) ≡ bytes "refused\t23\t1\t0\n") × (judged_log text_a (empty_lines 32769) ≡ bytes "refused\t1\t0\t0\n")
unfolding computing
judged-limit = (refl, refl)
