-- What is found in a log: the lowest line that has not its form, or what its lines say of each task.
use Rattle.std.specs.Prelude.{ℕ, ◌+◌, min, Bool, cond, List, eqb, Result, Ok, Err}
use Rattle.laws.specs.Lists.{all_of, first_not}
use Rattle.book_view.specs.View.{laid}
use Rattle.school.specs.Lines.{said_in}
use Rattle.school.specs.Said.{LogLine}
use Rattle.school.specs.Tasks.{is_start, is_end, how_many, first_of}
use Rattle.school_read.specs.declared.Found.{Found}
use Rattle.school_read.specs.declared.Noted.{Noted}

abbrev pub is_formed : LogLine → Bool
is_formed said = said.formed

-- none, one, or more
abbrev pub up_to_two : ℕ → ℕ
up_to_two n = min n 2

-- how many lines say it of a task, and board and tick of the first; task i, from 0, in place i
unfoldable pub noted : (ℕ → LogLine → Bool) → List LogLine → Noted
noted says lines =
    let all : (ℕ → ℕ) → List ℕ = laid 64 in record {
      many = all (λ i. up_to_two (how_many (says i) lines));
      board = all (λ i. (first_of (says i) lines).board);
      tick = all (λ i. (first_of (says i) lines).tick);
    }

-- the line says no start, or no end, of a task
abbrev pub starts_none : LogLine → Bool
starts_none said = eqb said.start 0

abbrev pub ends_none : LogLine → Bool
ends_none said = eqb said.end 0

-- the starts, and the ends; and how many lines say no start, and no end
abbrev pub lines_found : List LogLine → Found
lines_found lines = record {
  starts = noted is_start lines;
  ends = noted is_end lines;
  startless = up_to_two (how_many starts_none lines);
  endless = up_to_two (how_many ends_none lines);
}

-- the lowest line that has not its form, from 1, or what is found
unfoldable pub lines_read : List LogLine → Result Found ℕ
lines_read lines = cond (all_of is_formed lines) (Ok (lines_found lines)) (Err (first_not is_formed lines + 1))

-- arrays have places for 64 tasks
unfoldable pub found_of : ℕ → ℕ → List ℕ → Result Found ℕ
found_of boards tasks log = lines_read (said_in boards (min tasks 64) log)
