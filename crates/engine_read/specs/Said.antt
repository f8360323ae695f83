-- What a line of lengths.txt says, and how the reader answers it.
use Rattle.std.specs.Prelude.{ℕ, Result, Ok, Err}
use Rattle.text_fields.specs.Said.{fault_number}
use Rattle.text_fields.specs.declared.Fault.{Fault}
use Rattle.engine_read.specs.declared.LengthEntry.{LengthEntry}

-- a task's length in ticks, a task that is dropped, or the code and the column that refuse the line
pub data LengthLine : Type 0 where
  Length : ℕ → ℕ → LengthLine
  Drop : ℕ → LengthLine
  Refused : ℕ → ℕ → LengthLine

abbrev pub entry_line : LengthEntry → LengthLine
entry_line (LengthEntry.Length task ticks) = Length task ticks
entry_line (LengthEntry.Drop task) = Drop task

-- each answer of the reader is one line, and no two are the same
abbrev pub line_in : Result LengthEntry Fault → LengthLine
line_in (Ok entry) = entry_line entry
line_in (Err fault) = Refused (fault_number fault.kind) fault.column
