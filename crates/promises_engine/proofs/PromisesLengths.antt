-- What is promised of lengths.txt and of the timetable's text.
use Prim.Native.Nat.{ℕ, ◌≤◌}
use mathlib.Core.Path.{◌≡◌}
use mathlib.Core.Bool.{Bool}
use mathlib.Core.List.{List}
use Rattle.engine_read.specs.Lines.{task_code, next_said}
use Rattle.engine_read.specs.Whole.{told_in, asked_of}
use Rattle.engine_read.specs.Said.{LengthLine}
use Rattle.engine_write.specs.Table.{table_of}
use Rattle.promises_engine.specs.LengthsSays.{LengthLineSays, TaskFour, LinesSay, AskedSays, TableSays}
use Rattle.promises_engine.proofs.LengthLine as length-line
use Rattle.promises_engine.proofs.LengthText as length-text

-- A faultless line is exactly its word and its numbers' digits, of a task of the plan of which no earlier line says the same.
-- Any other has 3 or 4 with line and column, 3 before 4, each at its leftmost field
pub length-line-says :
    (tasks n : ℕ) → tasks ≤ 64 → (earlier : List LengthLine) (text : List ℕ) → LengthLineSays tasks n earlier text (next_said tasks earlier text)
length-line-says = length-line.line-says

-- A task field is 4 exactly where it is a number outside 1 to T or a task of which an earlier line says the same
pub task-four :
    (tasks : ℕ) (earlier : ℕ → Bool) (s : List ℕ) → tasks ≤ 64
    → (task_code tasks earlier s ≡ 4 → TaskFour tasks earlier s) × (TaskFour tasks earlier s → task_code tasks earlier s ≡ 4)
task-four tasks earlier s few = (length-line.four_is tasks earlier s few, length-line.is-four tasks earlier s few)

-- The lines are read one after the other, and the first that is refused ends the reading
pub lines-say : (tasks n : ℕ) (earlier : List LengthLine) (text : List ℕ) → LinesSay tasks n earlier text (told_in tasks n earlier text)
lines-say = length-text.lines-say

-- 1 for a text too long; then 3 for a malformed `rule` line; then the lines
pub lengths-say : (tasks : ℕ) → tasks ≤ 64 → (begin finish text : List ℕ) → AskedSays tasks begin finish text (asked_of tasks begin finish text)
lengths-say = length-text.asked-says

-- The plan's refusal is the only line printed, then that of lengths.txt, then the engine's; else a line a task is
pub table-says : (plan lengths : List ℕ) → TableSays plan lengths (table_of plan lengths)
table-says = length-text.table-text
