-- What a line of a log says, also one without its form, and that a reader's answer says the same.
use Rattle.std.specs.Prelude.{ℕ, ◌+◌, Bool, true, false, Option, None, Some}
use Rattle.school.specs.declared.LogLine as line
use Rattle.school.specs.declared.LogLine.TheVariants as read

-- whether the line has its form; the task whose start or end it says, 0 for none; that one's board and tick
pub record LogLine : Type 0 where
  pub formed : Bool
  pub start : ℕ
  pub end : ℕ
  pub board : ℕ
  pub tick : ℕ

-- what a reader's answer says of a line: `None` is one without its form
abbrev pub said : Option line.LogLine → LogLine
said None = record { formed = false; start = 0; end = 0; board = 0; tick = 0 }
said (Some read.Remark) = record { formed = true; start = 0; end = 0; board = 0; tick = 0 }
said (Some (read.Start at)) = record { formed = true; start = at.place + 1; end = 0; board = at.board; tick = at.tick }
said (Some (read.End at)) = record { formed = true; start = 0; end = at.place + 1; board = at.board; tick = at.tick }
