-- A line of lengths.txt: `length`, task, ticks; or `drop`, task.
use Rattle.std.specs.Prelude.{ℕ, ◌-◌, Bool, false, cond, ◌&&◌, List, [], ◌∷◌, eqb}
use Rattle.laws.specs.Lists.{any_of, same}
use Rattle.laws.specs.Split.{before}
use Rattle.text.specs.Bytes.{bytes}
use Rattle.text.specs.Number.{value_of, most}
use Rattle.text.specs.Line.{LF, field, has_line}
use Rattle.text_fields.specs.Faults.{field_code, line_codes, fault_of, unless_fault}
use Rattle.plan.specs.Answer.{refuse, granted}
use Rattle.plan.specs.Value.{at}
use Rattle.plan.specs.declared.Answer.{Answer}
use Rattle.engine_read.specs.Said.{LengthLine}
use Rattle.engine_read.specs.Said.{Length, Drop, Refused}

-- the line gives a length of that task
abbrev pub says_length : ℕ → LengthLine → Bool
says_length task (Length named ticks) = eqb named task
says_length task (Drop named) = false
says_length task (Refused code column) = false

-- the line drops that task
abbrev pub says_drop : ℕ → LengthLine → Bool
says_drop task (Length named ticks) = false
says_drop task (Drop named) = eqb named task
says_drop task (Refused code column) = false

-- 4 for a task outside 1 to T, and for one of which an earlier line says the same
unfoldable pub task_code : ℕ → (ℕ → Bool) → List ℕ → ℕ
task_code tasks earlier s = let code = field_code 1 tasks s in cond (eqb code 0 && earlier (value_of s)) 4 code

-- `length`, task, ticks; ticks over 1,000,000 are 4
unfoldable pub length_codes : ℕ → (ℕ → Bool) → Bool → List ℕ → List ℕ
length_codes tasks earlier = line_codes (bytes "length") (task_code tasks earlier ∷ field_code 0 most ∷ [])

-- `drop`, task
unfoldable pub drop_codes : ℕ → (ℕ → Bool) → Bool → List ℕ → List ℕ
drop_codes tasks earlier = line_codes (bytes "drop") (task_code tasks earlier ∷ [])

-- the line that begins the text, by whether a length of a task was given before and whether it was dropped before.
-- A line whose word is `drop` says a drop, any other a length; a last line may have no LF
unfoldable pub line_said : ℕ → (ℕ → Bool) → (ℕ → Bool) → List ℕ → LengthLine
line_said tasks lengthened dropped text =
    let line = before LF text in
    cond (same (field line 0) (bytes "drop"))
    (unless_fault (fault_of line (drop_codes tasks dropped (has_line text) line)) Refused (Drop (value_of (field line 1))))
    (unless_fault (fault_of line (length_codes tasks lengthened (has_line text) line)) Refused (Length (value_of (field line 1)) (value_of (field line 2))))

-- an array that has 1 for a task
abbrev pub marked : List ℕ → ℕ → Bool
marked l task = eqb (at l (task - 1)) 1

-- the same after what the earlier lines say
abbrev pub next_said : ℕ → List LengthLine → List ℕ → LengthLine
next_said tasks earlier text = line_said tasks (λ task. any_of (says_length task) earlier) (λ task. any_of (says_drop task) earlier) text

-- what line n is answered: nothing is refused, or the number with line and column
abbrev pub said_answer : ℕ → LengthLine → Answer
said_answer n (Length task ticks) = granted
said_answer n (Drop task) = granted
said_answer n (Refused code column) = refuse code n column
