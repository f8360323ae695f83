-- The whole output of the program, from the two texts.
use Rattle.std.specs.Prelude.{ℕ, zero, suc, ◌+◌, cond, List, [], ◌++◌, ltb, eqb, length}
use Rattle.laws.specs.Split.{after}
use Rattle.text.specs.Line.{LF}
use Rattle.text.specs.Put.{if_fits}
use Rattle.plan.specs.Answer.{refuse, granted, is_granted, is_refused}
use Rattle.plan.specs.Read.{reading_of}
use Rattle.plan.specs.declared.Answer.{Answer}
use Rattle.plan.specs.declared.Plan.{Plan}
use Rattle.book.specs.Open.{rule_number, blank_book, opened_on}
use Rattle.book.specs.Report.{reported_of}
use Rattle.book.specs.Drop.{dropped_of}
use Rattle.book.specs.Early.{figure_of}
use Rattle.book.specs.declared.Book.{Book}
use Rattle.book.specs.declared.Rule.{Rule}
use Rattle.book.specs.declared.Rule.TheVariants.{EarlyStart, Clash}
use Rattle.log_read.specs.Entries.{next_entry, entry_code}
use Rattle.log_read.specs.Rules.{choice_of}
use Rattle.log_read.specs.Said.{Choice}
use Rattle.log_read.specs.Said.Choice.{Unsaid, Chosen, Malformed}
use Rattle.log_read.specs.Said.{Entry}
use Rattle.log_read.specs.Said.Entry.{End, Drop, Refused}
use Rattle.log_write.specs.Lines.{refused_line}
use Rattle.log_run.specs.Lines.{run_line, end_line, drop_line, early_line, start_lines}
use Rattle.log_run.specs.declared.StepOutcome.{StepOutcome}

-- an answer, the book after it, and its M where it is accepted
abbrev pub shown_after : Answer → Book → StepOutcome
shown_after answer book = record { answer = answer; book = book; early = cond (is_granted answer) (figure_of book).early 0 }

-- `run`; then a `start` line for each task whose start is known at opening; an `early` line
unfoldable pub open_log : Plan → Rule → List ℕ
open_log plan rule =
    run_line (opened_on plan rule)
    ++ (start_lines (blank_book (rule_number rule) plan) (opened_on plan rule) plan.tasks
    ++ early_line (shown_after granted (opened_on plan rule)))

-- what line n of ends.txt is answered, by what it says
unfoldable pub told_of : ℕ → Book → Entry → StepOutcome
told_of n book (End task tick) = shown_after (reported_of book task tick).answer (reported_of book task tick).book
told_of n book (Drop task) = shown_after (dropped_of book task).answer (dropped_of book task).book
told_of n book (Refused code column) = record { answer = refuse code n column; book = book; early = 0 }

-- an accepted report's `end` line and the `start` and `skip` lines it caused, or a drop's `drop` line
abbrev pub lines_of : Book → Entry → Book → List ℕ
lines_of book (End task tick) told = end_line told task ++ start_lines book told book.tasks
lines_of book (Drop task) told = drop_line told task
lines_of book (Refused code column) told = []

-- these and an `early` line; or a `refused` line
unfoldable pub told_log : Book → Entry → StepOutcome → List ℕ
told_log book entry told =
    cond (is_granted told.answer) (lines_of book entry told.book ++ early_line told) (refused_line told.answer)

-- line by line from line n on; 3 and 4 print and stop, codes 10 to 15 and 19 print and the next line is read
unfoldable pub ends_log : ℕ → Book → ℕ → List ℕ → List ℕ
ends_log zero book n ends = []
ends_log (suc fuel) book n ends =
    let entry = next_entry ends in
    let told = told_of n book entry in
    let rest = cond (eqb (entry_code entry) 0) (ends_log fuel told.book (n + 1) (after LF ends)) [] in
    cond (eqb (length ends) 0) [] (told_log book entry told ++ rest)

-- the lines of a text from line n on: they are no more than its bytes
abbrev pub rest_log : Book → ℕ → List ℕ → List ℕ
rest_log book n ends = ends_log (length ends) book n ends

-- by the first line: the rule it chooses and line 2 on; or, malformed, Early Start's opening and a `refused` line
unfoldable pub chosen_log : Choice → Plan → List ℕ → List ℕ
chosen_log Unsaid plan ends = open_log plan EarlyStart ++ rest_log (opened_on plan EarlyStart) 1 ends
chosen_log Chosen plan ends = open_log plan Clash ++ rest_log (opened_on plan Clash) 2 (after LF ends)
chosen_log (Malformed column) plan ends = open_log plan EarlyStart ++ refused_line (refuse 3 1 column)

-- A refused plan, then a too long ends.txt, prints only the `refused` line
unfoldable pub log_of : List ℕ → List ℕ → List ℕ
log_of plan ends =
    cond (is_refused (reading_of plan).answer) (refused_line (reading_of plan).answer)
    (cond (ltb 32768 (length ends)) (refused_line (refuse 1 0 0))
    (chosen_log (choice_of ends) (reading_of plan).plan ends))

-- no log is longer
abbrev pub log_most : ℕ
log_most = 212992

-- what is written into a buffer of so many bytes: nothing where some log would not fit
abbrev pub log_in : ℕ → List ℕ → List ℕ → List ℕ
log_in room plan ends = if_fits log_most room (log_of plan ends)
