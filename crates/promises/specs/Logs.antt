-- What ends.txt tells the dispatcher, and what the lines of a log say.
use Rattle.std.specs.Prelude.{ℕ, zero, suc, ◌+◌, ◌≤◌, ◌<◌, ◌≡◌, ◌≢◌, cond, List, [], ◌∷◌, ◌++◌, eqb, length}
use Rattle.laws.specs.Digits.{digits_of}
use Rattle.laws.specs.Split.{after}
use Rattle.text.specs.Bytes.{bytes}
use Rattle.text.specs.Line.{LF, skip, line_at, fields, field}
use Rattle.text.specs.Number.{value_of}
use Rattle.theory.specs.Words.Events.{Event}
use Rattle.plan.specs.Answer.{refuse}
use Rattle.plan.specs.Read.{reading_of}
use Rattle.book.specs.Early.{figure_of}
use Rattle.book.specs.declared.Book.{Book}
use Rattle.book.specs.declared.Rule.{Rule}
use Rattle.book.specs.declared.Rule.TheVariants.{EarlyStart, Clash}
use Rattle.log_read.specs.Entries.{next_entry}
use Rattle.log_read.specs.Rules.{choice_of}
use Rattle.log_read.specs.Said.{Choice}
use Rattle.log_read.specs.Said.Choice.{Unsaid, Chosen, Malformed}
use Rattle.log_read.specs.Said.{Entry}
use Rattle.log_read.specs.Said.Entry.{End, Drop, Refused}
use Rattle.log_write.specs.Lines.{refused_line}
use Rattle.log_run.specs.Log.{open_log, ends_log, log_of}
use Rattle.promises.specs.Runs.{opened_book, book_after, run_of, Ended, EarlyBy}

-- what a line says, and what the lines after it do; a malformed line is the last
abbrev pub said_before : Entry → List Event → List Event
said_before (End task tick) later = Event.ends task tick ∷ later
said_before (Drop task) later = Event.drops task ∷ later
said_before (Refused code column) later = []

-- the reports and drops that the first n lines of a text say
unfoldable pub said_in : ℕ → List ℕ → List Event
said_in zero text = []
said_in (suc n) text = cond (eqb (length text) 0) [] (said_before (next_entry text) (said_in n (after LF text)))

-- by the first line of ends.txt: the rule, and the lines that follow where it chooses one
abbrev pub rule_by : Choice → Rule
rule_by Unsaid = EarlyStart
rule_by Chosen = Clash
rule_by (Malformed column) = EarlyStart

abbrev pub lines_by : Choice → List ℕ → List ℕ
lines_by Unsaid ends = ends
lines_by Chosen ends = after LF ends
lines_by (Malformed column) ends = []

abbrev pub rule_in : List ℕ → Rule
rule_in ends = rule_by (choice_of ends)

-- the lines of ends.txt that tell something, and the number of the first of them
abbrev pub lines_in : List ℕ → List ℕ
lines_in ends = lines_by (choice_of ends) ends

abbrev pub first_by : Choice → ℕ
first_by Unsaid = 1
first_by Chosen = 2
first_by (Malformed column) = 1

abbrev pub first_in : List ℕ → ℕ
first_in ends = first_by (choice_of ends)

-- A refused plan, then a too long ends.txt, prints only the `refused` line
pub data LogSays (text ends : List ℕ) : Type 0 where
  refused_plan : (reading_of text).answer.code ≢ 0 → log_of text ends ≡ refused_line (reading_of text).answer → LogSays text ends
  too_long :
      (reading_of text).answer.code ≡ 0 → 32768 < length ends → log_of text ends ≡ refused_line (refuse 1 0 0)
      → LogSays text ends
  runs :
      (reading_of text).answer.code ≡ 0 → length ends ≤ 32768 → (rest : List ℕ)
      → log_of text ends ≡ open_log (reading_of text).plan (rule_in ends) ++ rest → LogSays text ends

-- the log up to what n lines of ends.txt print, and the book that they leave
abbrev pub log_until : List ℕ → List ℕ → ℕ → List ℕ
log_until text ends n =
    open_log (reading_of text).plan (rule_in ends)
    ++ ends_log n (opened_book (reading_of text).plan (rule_in ends)) (first_in ends) (lines_in ends)

abbrev pub book_at : List ℕ → List ℕ → ℕ → Book
book_at text ends n = run_of (reading_of text).plan (rule_in ends) (said_in n (lines_in ends))

-- Line n of a log, an `early` line, is the last that so many lines of ends.txt print, each a report or drop. It shows clock and M of
-- the book that these leave, and each task that had not ended then starts and ends at least that early, whatever is told after them
pub record EarlyLine (text ends : List ℕ) (n : ℕ) : Type 0 where
  pub read : ℕ
  pub each_said : length (said_in read (lines_in ends)) ≡ read
  pub until : log_of text ends ≡ log_until text ends read ++ skip (n + 1) (log_of text ends)
  pub shows :
      fields (line_at (log_of text ends) n)
      ≡ bytes "early" ∷ digits_of (book_at text ends read).clock ∷ digits_of (figure_of (book_at text ends read)).early ∷ []
  pub kept :
      (later : List Event) (i : ℕ) → i < (reading_of text).plan.tasks → (Ended (book_at text ends read) i → ⊥)
      → EarlyBy (reading_of text).plan (value_of (field (line_at (log_of text ends) n) 2)) (book_after (book_at text ends read) later) i
