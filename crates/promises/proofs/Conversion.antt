-- SHARED HOLDS ARE RETIRED. The converter on a plan value, the second call on a text, and a text of either edition made edition 2.
use Prim.Native.Nat.{ℕ, ◌≤◌}
use mathlib.Core.Path.{◌≡◌}
use mathlib.Core.Logic.{◌≢◌, ◌⊎◌}
use mathlib.Core.Bool.{true, false}
use mathlib.Core.List.{List}
use Rattle.laws.specs.Lists.{same}
use Rattle.text.specs.Bytes.{bytes}
use Rattle.text.specs.Line.{line_at, field}
use Rattle.theory.specs.Words.Events.{Event}
use Rattle.plan.specs.Answer.{granted}
use Rattle.plan.specs.Value.{task_at, is_accepted}
use Rattle.plan.specs.Read.{edition_of, boards_of, tasks_of, text_task, reading_of, mended_of}
use Rattle.plan.specs.Convert.{converted_of, renewed_of}
use Rattle.plan.specs.declared.Plan.{Plan}
use Rattle.book.specs.Early.{figure_of}
use Rattle.book.specs.Words.Event.{answer_to}
use Rattle.book.specs.declared.Rule.{Rule}
use Rattle.book.specs.declared.Rule.TheVariants.{EarlyStart}
use Rattle.log_read.specs.Rules.{choice_of}
use Rattle.log_read.specs.Said.Choice.{Chosen}
use Rattle.plan_convert.specs.Renewed.{renewed_text}
use Rattle.log_run.specs.Log.{log_of}
use Rattle.promises.specs.Runs.{SizedPlan, run_of}
use Rattle.promises.specs.Ladder.{Ladder}
use Rattle.promises.specs.Checks.{reading_checks}
use Rattle.promises.specs.Says.{ReadingSays}
use Rattle.promises.specs.Conversion.{MadeOf, Unshared, ConvertedSays, exclusive_book}
use Rattle.promises.proofs.Codes.Reading as read-codes
use Rattle.promises.proofs.Codes.ReadChecks as read-checks
use Rattle.promises.proofs.Codes.Conversion as conversion
use Rattle.promises.proofs.Codes.ConvertedBook as converted-book
use Rattle.promises.proofs.Codes.Mended as mended
use Rattle.promises.proofs.Codes.ConvertedLog as same_log

-- the converter makes an accepted plan of edition 2 with the same boards, times, drives and after lists, ready 0 and no shared hold;
-- or says 7 with the first pair that clashes by drive now; or 9, to a plan that is not accepted or not of edition 1
pub converted-code :
    (plan : Plan)
    → ((converted_of plan).answer.code ≡ 0) ⊎ (((converted_of plan).answer.code ≡ 7) ⊎ ((converted_of plan).answer.code ≡ 9))
converted-code = conversion.converted-code

pub converted-says : (plan : Plan) → ConvertedSays plan (converted_of plan)
converted-says = conversion.converted-says

-- where the plan has no shared hold it never refuses an accepted edition 1 plan
pub unshared-converts :
    (plan : Plan) → is_accepted plan ≡ true → plan.edition ≡ 1 → Unshared plan.tasks (task_at plan) → (converted_of plan).answer ≡ granted
unshared-converts = conversion.unshared-converts

-- its arrays have their lengths
pub converted-sized : (plan : Plan) → SizedPlan plan → SizedPlan (converted_of plan).plan
converted-sized = conversion.converted-sized

-- converted and opened, by Early Start or, where nobody shares a drive, by either rule: the same book but for its plan's edition and
-- holds after any reports and drops, so the same starts and ends; the same answer to any report and drop; the same M
module _ (plan : Plan) (rule : Rule) (size : SizedPlan plan) (taken : (converted_of plan).answer.code ≡ 0)
    (keeps : (rule ≡ EarlyStart) ⊎ Unshared plan.tasks (task_at plan)) (events : List Event) where
  pub converted-run : run_of (converted_of plan).plan rule events ≡ exclusive_book (run_of plan rule events)
  converted-run = converted-book.converted-run plan rule size taken keeps events

  pub converted-answers : (event : Event) → answer_to (run_of (converted_of plan).plan rule events) event ≡ answer_to (run_of plan rule events) event
  converted-answers = converted-book.converted-answers plan rule size taken keeps events

  pub converted-figure : figure_of (run_of (converted_of plan).plan rule events) ≡ figure_of (run_of plan rule events)
  converted-figure = converted-book.converted-figure plan rule size taken keeps events

-- the second call's refusal numbers, each exactly when its condition holds and no other that goes before it does
pub mended-checks : (text : List ℕ) → Ladder (reading_checks true text) (mended_of text).answer.code
mended-checks = read-checks.reading-ladder true

-- the second call reads, or says 1 to 8, 17 or 18 as reading does, and never 20
pub mended-code :
    (text : List ℕ)
    → ((mended_of text).answer.code ≤ 8) ⊎ (((mended_of text).answer.code ≡ 17) ⊎ ((mended_of text).answer.code ≡ 18))
mended-code = mended.mended-code

pub mended-says : (text : List ℕ) → ReadingSays true text (mended_of text)
mended-says = read-codes.reading-says true

-- what it gives is made of an edition 2 text's own tasks, ready ticks kept
pub mended-made :
    (text : List ℕ) → (mended_of text).answer.code ≡ 0
    → (edition_of text ≡ 2) × MadeOf (boards_of text) (tasks_of text) (text_task false text) (mended_of text).plan
mended-made text z = (mended.mended-edition text z, mended.mended-made text z)

-- on a text that is not of edition 1 and has no shared hold it is reading
pub mended-is-reading : (text : List ℕ) → edition_of text ≢ 1 → Unshared (tasks_of text) (text_task false text) → mended_of text ≡ reading_of text
mended-is-reading = mended.mended-is-reading

pub mended-sized : (text : List ℕ) → SizedPlan (mended_of text).plan
mended-sized = read-codes.reading-sized true

-- an edition 1 text that is made edition 2 gives the same log with the same ends.txt, where that does not choose the clash rule or
-- nobody shares a drive
pub converted-log :
    (text ends : List ℕ) → (choice_of ends ≢ Chosen) ⊎ Unshared (reading_of text).plan.tasks (task_at (reading_of text).plan) → same (field (line_at text 0) 1) (bytes "1") ≡ true → (renewed_of text).answer.code ≡ 0
    → log_of (renewed_text text) ends ≡ log_of text ends
converted-log = same_log.converted-log
