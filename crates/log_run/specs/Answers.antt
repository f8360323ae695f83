-- What is printed for one line, and at opening.
use Rattle.std.specs.Prelude.{ℕ, min, cond, List, length}
use Rattle.plan.specs.Answer.{is_granted}
use Rattle.plan.specs.declared.Plan.{Plan}
use Rattle.book.specs.Open.{opening_of}
use Rattle.book.specs.declared.Book.{Book}
use Rattle.book.specs.declared.Rule.{Rule}
use Rattle.log_read.specs.Said.{Entry}
use Rattle.log_read.specs.Said.Entry.{End, Drop, Refused}
use Rattle.log_write.specs.Lines.{refused_line}
use Rattle.log_run.specs.Log.{open_log, told_of, told_log}
use Rattle.log_run.specs.declared.LogResult.{LogResult}

-- what an answer can say of an entry: no line is so long that its column is past 32 bits
abbrev pub within : Entry → Entry
within (End task tick) = End task tick
within (Drop task) = Drop task
within (Refused code column) = Refused code (min column 4294967295)

-- as line n of ends.txt
abbrev pub entry_log : ℕ → Book → Entry → List ℕ
entry_log n book entry = told_log book entry (told_of n book entry)

-- the answer, the book after it, and how many bytes are printed
unfoldable pub logged_of : ℕ → Book → Entry → LogResult
logged_of n book entry =
    let told = told_of n book entry in record { answer = told.answer; book = told.book; length = length (entry_log n book entry) }

-- opening by a rule; or the `refused` line of a plan that is not accepted
abbrev pub opening_log : Plan → Rule → List ℕ
opening_log plan rule =
    cond (is_granted (opening_of plan rule).answer) (open_log plan rule) (refused_line (opening_of plan rule).answer)

unfoldable pub opening_logged : Plan → Rule → LogResult
opening_logged plan rule =
    record { answer = (opening_of plan rule).answer; book = (opening_of plan rule).book; length = length (opening_log plan rule) }
