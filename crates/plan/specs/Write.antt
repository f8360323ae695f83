-- The text of a plan, and what the writer leaves in a buffer.
use Rattle.std.specs.Prelude.{ℕ, ◌+◌, not, cond, List, [], ◌∷◌, ◌++◌, ltb, eqb, length}
use Rattle.std.proofs.lemmas.List.Edits.{sets}
use Rattle.laws.specs.Digits.{digits_of}
use Rattle.text.specs.Bytes.{bytes}
use Rattle.text.specs.Line.{line_text, lines_below}
use Rattle.text_fields.specs.Items.{list_text, hold_text}
use Rattle.plan.specs.Answer.{refuse, granted, is_granted}
use Rattle.plan.specs.Task.{Task}
use Rattle.plan.specs.Value.{task_at, is_accepted}
use Rattle.plan.specs.declared.Answer.{Answer}
use Rattle.plan.specs.declared.Plan.{Plan}
use Rattle.plan.specs.declared.WriteResult.{WriteResult}

unfoldable pub sizes_text : ℕ → ℕ → ℕ → List ℕ
sizes_text edition boards tasks = line_text (bytes "plan" ∷ digits_of edition ∷ digits_of boards ∷ digits_of tasks ∷ [])

-- the fields from the planned start on
abbrev pub fields_from : Task → List (List ℕ)
fields_from task =
    digits_of task.begin ∷ digits_of task.finish ∷ list_text hold_text task.holds ∷ list_text digits_of task.after ∷ []

-- each edition in its own form
unfoldable pub task_text : ℕ → ℕ → Task → List ℕ
task_text edition number task =
    line_text
    (bytes "task" ∷ digits_of number ∷ digits_of task.board
    ∷ cond (eqb edition 2) (digits_of task.ready ∷ fields_from task) (fields_from task))

-- the lines of the first n tasks
abbrev pub task_texts : ℕ → (ℕ → Task) → ℕ → List ℕ
task_texts edition task n = lines_below (λ i. task_text edition (i + 1) (task i)) n

unfoldable pub text_of : Plan → List ℕ
text_of plan =
    sizes_text plan.edition plan.boards plan.tasks ++ task_texts plan.edition (task_at plan) plan.tasks

-- 9 first; then 16, which says the bytes needed
unfoldable pub write_answer : Plan → ℕ → Answer
write_answer plan room =
    cond (not (is_accepted plan)) (refuse 9 0 0)
    (cond (ltb room (length (text_of plan))) (refuse 16 (length (text_of plan)) 0) granted)

unfoldable pub written_of : Plan → ℕ → WriteResult
written_of plan room =
    let answer = write_answer plan room in record { answer = answer; length = cond (is_granted answer) (length (text_of plan)) 0 }

-- A refused writer changes no byte; one that succeeds changes only the bytes of the text
unfoldable pub buffer_after : Plan → List ℕ → List ℕ
buffer_after plan out = cond (is_granted (write_answer plan (length out))) (sets out 0 (text_of plan)) out
