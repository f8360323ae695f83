-- The rows of request P2: what a text or a line of ends.txt is answered, with the column; and impostors of the column.
use Rattle.std.specs.Prelude.{ℕ, suc, ◌+◌, Bool, false, cond, ◌&&◌, List, [], ◌∷◌, ◌++◌, eqb, length}
use Rattle.laws.specs.Lists.{any_of}
use Rattle.laws.specs.Split.{index_of, begin_of}
use Rattle.text.specs.Bytes.{bytes}
use Rattle.text.specs.Line.{TAB, LF, has_line, field}
use Rattle.plan.specs.Answer.{refuse}
use Rattle.plan.specs.Read.{task_codes}
use Rattle.log_read.specs.Entries.{next_entry}
use Rattle.log_read.specs.Said.{Entry}
use Rattle.log_read.specs.Said.Entry.{End, Drop, Refused}
use Rattle.tables.specs.Texts.{Reads, reads}

-- one board, one task, and this task line
abbrev pub with_line : List ℕ → List ℕ
with_line line = bytes "plan\t1\t1\t1\n" ++ line

-- misspelt; emptied; the seventh field missing; no LF; no line; a field too many; a finish not above the start; 3 before 4; of
-- two misspelt fields, of a misspelt one and a missing LF, and of two out of range the left one
abbrev pub column_rows : List Reads
column_rows =
    reads (with_line (bytes "task\t1\t1\tx\t5\te1\t-\n")) (refuse 3 2 10)
    ∷ reads (with_line (bytes "task\t1\t\t0\t5\te1\t-\n")) (refuse 3 2 8)
    ∷ reads (with_line (bytes "task\t1\t1\t0\t5\te1\n")) (refuse 3 2 16)
    ∷ reads (with_line (bytes "task\t1\t1\t0\t5\te1\t-")) (refuse 3 2 18)
    ∷ reads (with_line []) (refuse 3 2 1)
    ∷ reads (with_line (bytes "task\t1\t1\t0\t5\te1\t-\t7\n")) (refuse 3 2 19)
    ∷ reads (with_line (bytes "task\t1\t1\t5\t5\te1\t-\n")) (refuse 4 2 12)
    ∷ reads (with_line (bytes "task\t1\t1\t1000001\t5\tq1\t-\n")) (refuse 3 2 20)
    ∷ reads (with_line (bytes "task\t1\t1\t0\tx\te1\n")) (refuse 3 2 12)
    ∷ reads (with_line (bytes "task\t1\t1\tx\t5\te1\t-")) (refuse 3 2 10)
    ∷ reads (with_line (bytes "task\t2\t9\t0\t5\te1\t-\n")) (refuse 4 2 6)
    ∷ []

-- a line of ends.txt is refused by this code at this column
pub record Stops : Type 0 where
  pub text : List ℕ
  pub code : ℕ
  pub column : ℕ

abbrev pub stops : List ℕ → ℕ → ℕ → Stops
stops text code column = record { text = text; code = code; column = column }

abbrev pub refused_at : Entry → ℕ → ℕ → Bool
refused_at (End task tick) code column = eqb 0 1
refused_at (Drop task) code column = eqb 0 1
refused_at (Refused said at) code column = eqb said code && eqb at column

abbrev pub stopped : Stops → Bool
stopped row = refused_at (next_entry row.text) row.code row.column

-- no tick; no LF; a field after a drop's task; a wrong word; a tick and a task over 1,000,000; 3 before 4
abbrev pub entry_rows : List Stops
entry_rows =
    stops (bytes "end\t1\n") 3 6
    ∷ stops (bytes "end\t1\t5") 3 8
    ∷ stops (bytes "drop\t1\t5\n") 3 8
    ∷ stops (bytes "stop\t1\t5\n") 3 1
    ∷ stops (bytes "end\t1\t1000001\n") 4 7
    ∷ stops (bytes "end\t1000001\t3\n") 4 5
    ∷ stops (bytes "end\t1000001\tx\n") 3 13
    ∷ []

-- a line with the tick 1,000,001 for a start, a misspelt holds field and a misspelt after field
abbrev pub three_faults : List ℕ
three_faults = bytes "task\t1\t1\t1000001\t5\tq1\tz"

abbrev pub three_codes : List ℕ
three_codes = task_codes false (has_line (three_faults ++ (LF ∷ []))) 1 1 1 three_faults 1

-- the last place of a code
unfoldable pub last_of : ℕ → List ℕ → ℕ → ℕ → ℕ
last_of code [] n found = found
last_of code (c ∷ codes) n found = last_of code codes (suc n) (cond (eqb c code) n found)

-- from 0; the field's end; each tab counted twice; the rightmost fault; 4 before 3
abbrev pub from_zero : ℕ → ℕ
from_zero code = begin_of TAB three_faults (index_of code three_codes)

abbrev pub field_end : ℕ → ℕ
field_end code = from_zero code + length (field three_faults (index_of code three_codes)) + 1

abbrev pub tabs_twice : ℕ → ℕ
tabs_twice code = from_zero code + index_of code three_codes + 1

abbrev pub rightmost : ℕ → ℕ
rightmost code = begin_of TAB three_faults (last_of code three_codes 0 0) + 1

abbrev pub four_first : ℕ
four_first = cond (any_of (eqb 4) three_codes) 4 3
