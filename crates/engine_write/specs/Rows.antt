-- The lines of a timetable.
use Rattle.std.specs.Prelude.{ℕ, ◌+◌, min, List, [], ◌∷◌}
use Rattle.text.specs.Bytes.{bytes}
use Rattle.text.specs.Line.{lines_below}
use Rattle.text.specs.Put.{if_fits}
use Rattle.plan.specs.Value.{at}
use Rattle.log_write.specs.Lines.{numbers_line}

-- `task`, number, board, start, end
abbrev pub row_line : List ℕ → List ℕ → List ℕ → ℕ → List ℕ
row_line board start end i = numbers_line (bytes "task") ((i + 1) ∷ at board i ∷ at start i ∷ at end i ∷ [])

-- of the tasks below n, by number
abbrev pub row_lines : List ℕ → List ℕ → List ℕ → ℕ → List ℕ
row_lines board start end n = lines_below (row_line board start end) n

-- no text of 64 such lines is longer
abbrev pub table_most : ℕ
table_most = 3328

-- what is written of so many tasks into a buffer of so many bytes: nothing where 64 lines would not fit. Arrays have places for 64 tasks
abbrev pub rows_in : ℕ → List ℕ → List ℕ → List ℕ → ℕ → List ℕ
rows_in room board start end tasks = if_fits table_most room (row_lines board start end (min tasks 64))
