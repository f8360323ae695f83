-- Shared holds are retired: edition 1 made edition 2.
use Rattle.std.specs.Prelude.{cond, ◌&&◌, List, map, ℕ, eqb}
use Rattle.laws.specs.Lists.{same}
use Rattle.text.specs.Bytes.{bytes}
use Rattle.text.specs.Line.{line_at, field}
use Rattle.text_fields.specs.Items.{exclusive}
use Rattle.plan.specs.Answer.{refuse, is_granted}
use Rattle.plan.specs.Value.{judged_answer, is_accepted}
use Rattle.plan.specs.Read.{read_as, reading_of, mended_of}
use Rattle.plan.specs.declared.Plan.{Plan}
use Rattle.plan.specs.declared.Reading.{Reading}

-- the plan in edition 2, each shared hold exclusive; its ready ticks stay, which edition 1 has at 0
unfoldable pub exclusive_plan : Plan → Plan
exclusive_plan plan = record plan { edition = 2; holds = map exclusive plan.holds }

-- The converter: 9 for a plan that is not accepted, and for any edition 2 plan; its result is judged anew
unfoldable pub converted_of : Plan → Reading
converted_of plan =
    let may = is_accepted plan && eqb plan.edition 1 in
    read_as (cond may (judged_answer (exclusive_plan plan)) (refuse 9 0 0)) (exclusive_plan plan)

-- a text of either edition made edition 2: one whose first line says edition `1` is read and converted, any other is the second call's
unfoldable pub renewed_of : List ℕ → Reading
renewed_of s =
    let read = reading_of s in
    let converted = cond (is_granted read.answer) (converted_of read.plan) read in
    cond (same (field (line_at s 0) 1) (bytes "1")) converted (mended_of s)
