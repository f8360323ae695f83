-- The desk's start: the log of the folder, and the morning after its ends.txt.
use Rattle.std.specs.Prelude.{ℕ, zero, suc, Bool, true, false, cond, ◌||◌, List, ltb, eqb, length, take}
use Rattle.laws.specs.Split.{after}
use Rattle.text.specs.Line.{LF}
use Rattle.plan.specs.Read.{reading_of}
use Rattle.plan.specs.Value.{at}
use Rattle.plan.specs.declared.Plan.{Plan}
use Rattle.book.specs.Open.{opening_of}
use Rattle.book.specs.declared.Book.{Book}
use Rattle.book.specs.declared.Rule.TheVariants.{EarlyStart, Clash}
use Rattle.log_read.specs.Entries.{next_entry, entry_code}
use Rattle.log_read.specs.Rules.{choice_of}
use Rattle.log_read.specs.Said.{Choice}
use Rattle.log_read.specs.Said.Choice.{Unsaid, Chosen, Malformed}
use Rattle.log_run.specs.Log.{told_of, log_of}
use Rattle.desk_start.specs.declared.Way.{Way}
use Rattle.desk_start.specs.declared.Way.TheVariants.{Refused, Stops, Goes}
use Rattle.desk_start.specs.declared.EndsResult.{EndsResult}
use Rattle.desk_start.specs.declared.DeskOpening.{DeskOpening}

-- the place after the last LF among the first n bytes; 0 where there is none
unfoldable pub line_end : List ℕ → ℕ → ℕ
line_end text zero = 0
line_end text (suc n) = cond (eqb (at text n) LF) (suc n) (line_end text n)

-- what follows the last LF was never answered
abbrev pub whole_lines : List ℕ → List ℕ
whole_lines text = take (line_end text (length text)) text

-- the text that is gone through: 1 is asked of the whole file
unfoldable pub text_in : List ℕ → List ℕ
text_in ends = cond (ltb 32768 (length ends)) ends (whole_lines ends)

abbrev pub stopping : Book → EndsResult
stopping book = record { stops = true; book = book }

abbrev pub going : Book → EndsResult
going book = record { stops = false; book = book }

-- line by line as in the log: the book after each; 3 and 4 stop
unfoldable pub walk_from : ℕ → Book → List ℕ → EndsResult
walk_from zero book text = going book
walk_from (suc fuel) book text =
    let entry = next_entry text in
    cond (eqb (length text) 0) (going book)
    (cond (eqb (entry_code entry) 0) (walk_from fuel (told_of 0 book entry).book (after LF text)) (stopping book))

-- the lines are no more than the bytes
abbrev pub walk_in : Book → List ℕ → EndsResult
walk_in book text = walk_from (length text) book text

-- by the first line: the rule that it chooses and line 2 on; malformed it stops
unfoldable pub walked_by : Choice → Plan → List ℕ → EndsResult
walked_by Unsaid plan text = walk_in (opening_of plan EarlyStart).book text
walked_by Chosen plan text = walk_in (opening_of plan Clash).book (after LF text)
walked_by (Malformed column) plan text = stopping (opening_of plan EarlyStart).book

unfoldable pub walked_of : Plan → List ℕ → EndsResult
walked_of plan text = walked_by (choice_of text) plan text

-- by the plan's code, and whether the log stops in ends.txt
unfoldable pub way_of : ℕ → Bool → Way
way_of code stops = cond (eqb code 0) (cond stops Stops Goes) Refused

-- what is printed first
abbrev pub start_log : List ℕ → List ℕ → List ℕ
start_log plan ends = log_of plan (text_in ends)

-- a text that is too long stops; the morning keeps the bytes that were gone through
unfoldable pub begun_of : List ℕ → List ℕ → DeskOpening
begun_of plan ends =
    let walked = walked_of (reading_of plan).plan (text_in ends) in
    record {
      way = way_of (reading_of plan).answer.code (ltb 32768 (length ends) || walked.stops);
      length = length (start_log plan ends);
      morning = record { book = walked.book; kept = length (text_in ends) };
    }
