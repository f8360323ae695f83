-- What a line typed at the desk asks, refusals too, and that a reader's answer asks the same: nothing is lost on the way.
use Rattle.std.specs.Prelude.{ℕ, Result, Ok, Err}
use Rattle.log_read.specs.Said.{Entry, said}
use Rattle.log_read.specs.Said.Entry.{Refused}
use Rattle.log_read.specs.declared.LineFault.{LineFault}
use Rattle.desk_read.specs.declared.DeskLine as line
use Rattle.desk_read.specs.declared.DeskLine.TheVariants as read

-- what a line of ends.txt says or is refused by, the clash rule, or one of the questions
pub data DeskLine : Type 0 where
  Step : (entry : Entry) → DeskLine
  Rule : DeskLine
  Early : DeskLine
  Exact : DeskLine
  Now : DeskLine
  Drive : (drive : ℕ) → DeskLine
  Why : (task : ℕ) → DeskLine

-- what a reader's answer asks: its fault is that of a line of ends.txt
abbrev pub asked : Result line.DeskLine LineFault → DeskLine
asked (Ok (read.Step entry)) = Step (said (Ok entry))
asked (Ok read.Rule) = Rule
asked (Ok read.Early) = Early
asked (Ok read.Exact) = Exact
asked (Ok read.Now) = Now
asked (Ok (read.Drive drive)) = Drive drive
asked (Ok (read.Why task)) = Why task
asked (Err fault) = Step (Refused fault.number fault.column)
