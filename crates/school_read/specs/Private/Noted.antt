-- What is noted of the starts, or of the ends, with one more.
use Rattle.std.specs.Prelude.{ℕ, ◌+◌, ◌<◌, min, cond, eqb, replicate, set}
use Rattle.plan.specs.Value.{at}
use Rattle.school.specs.declared.LogLine as line
use Rattle.school.specs.declared.LogLine.TheVariants as read
use Rattle.school_read.specs.declared.Found.{Found}
use Rattle.school_read.specs.declared.Noted.{Noted}

abbrev pub none_noted : Noted
none_noted = record { many = replicate 64 0; board = replicate 64 0; tick = replicate 64 0 }

-- in place i: the first is kept, and any more are counted as 2
abbrev pub noted_at : ℕ → Noted → ℕ → ℕ → Noted
noted_at i noted board tick =
    cond (eqb (at noted.many i) 0)
    (record { many = set noted.many i 1; board = set noted.board i board; tick = set noted.tick i tick })
    (record { many = set noted.many i 2; board = noted.board; tick = noted.tick })

-- a start or an end has one of the 64 places
abbrev pub IsPlaced : line.LogLine → Type 0
IsPlaced (read.Start at) = at.place < 64
IsPlaced (read.End at) = at.place < 64
IsPlaced read.Remark = Unit

-- one, or more
abbrev pub with_one : ℕ → ℕ
with_one n = min n 1 + 1

abbrev pub found_with : Found → line.LogLine → Found
found_with found (read.Start moment) =
    record found { starts = noted_at moment.place found.starts moment.board moment.tick; endless = with_one found.endless }
found_with found (read.End moment) =
    record found { ends = noted_at moment.place found.ends moment.board moment.tick; startless = with_one found.startless }
found_with found read.Remark =
    record found { startless = with_one found.startless; endless = with_one found.endless }
