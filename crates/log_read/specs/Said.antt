-- What a line of ends.txt says, refusals too, and that a reader's answer says the same: nothing is lost on the way.
use Rattle.std.specs.Prelude.{ℕ, Result, Ok, Err}
use Rattle.log_read.specs.declared.LineFault.{LineFault}
use Rattle.log_read.specs.declared.Entry as entry
use Rattle.log_read.specs.declared.Entry.TheVariants as read
use Rattle.log_read.specs.declared.Choice as choice
use Rattle.log_read.specs.declared.Choice.TheVariants as first

-- a task's end at a tick, a task that is dropped, or the code and the column that refuse the line
pub data Entry : Type 0 where
  End : (task tick : ℕ) → Entry
  Drop : (task : ℕ) → Entry
  Refused : (code column : ℕ) → Entry

-- what the first line says of the rule: nothing, that it is clash, or at which column it is malformed
pub data Choice : Type 0 where
  Unsaid : Choice
  Chosen : Choice
  Malformed : (column : ℕ) → Choice

-- what a reader's answer says of a line
abbrev pub said : Result entry.Entry LineFault → Entry
said (Ok (read.End task tick)) = End task tick
said (Ok (read.Drop task)) = Drop task
said (Err fault) = Refused fault.number fault.column

-- and of the first one
abbrev pub chosen : Result choice.Choice ℕ → Choice
chosen (Ok first.Unsaid) = Unsaid
chosen (Ok first.Chosen) = Chosen
chosen (Err column) = Malformed column
