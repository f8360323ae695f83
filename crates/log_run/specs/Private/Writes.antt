-- Names for what single functions say: the lines of a book by the marks before, and how long they can be.
use Rattle.std.specs.Prelude.{ℕ, ◌+◌, ◌*◌, ◌<◌, ◌≤◌, Bool, cond, not, ◌&&◌, List, [], ◌++◌, eqb, replicate}
use Rattle.laws.specs.Private.Count.{count}
use Rattle.text.specs.Line.{lines_below}
use Rattle.plan.specs.Answer.{granted, is_granted}
use Rattle.plan.specs.Value.{at}
use Rattle.book.specs.declared.Book.{Book}
use Rattle.book.specs.declared.Rule.{Rule}
use Rattle.book.specs.declared.Rule.TheVariants.{EarlyStart, Clash}
use Rattle.log_read.specs.Said.{Choice}
use Rattle.log_read.specs.Said.Choice.{Unsaid, Chosen, Malformed}
use Rattle.log_read.specs.Said.{Entry}
use Rattle.log_read.specs.Said.Entry.{End, Drop, Refused}
use Rattle.log_write.specs.Lines.{refused_line}
use Rattle.log_run.specs.Lines.{run_line, start_line, end_line, drop_line, early_line}
use Rattle.log_run.specs.declared.StepOutcome.{StepOutcome}

-- task i waited by the old marks and waits no longer by the new ones
abbrev pub starting : List ℕ → List ℕ → ℕ → Bool
starting old mark i = eqb (at old i) 0 && not (eqb (at mark i) 0)

-- the `start` and `skip` lines of a book's tasks below n
unfoldable pub starts_in : List ℕ → Book → ℕ → List ℕ
starts_in old book n = lines_below (λ i. cond (starting old book.mark i) (start_line book i) []) n

-- how many of a book's tasks started
abbrev pub started : List ℕ → Book → ℕ
started old book = count book.tasks (starting old book.mark)

abbrev pub opened_in : Book → ℕ → List ℕ
opened_in book early =
    run_line book
    ++ (starts_in (replicate 64 0) book book.tasks ++ early_line (record { answer = granted; book = book; early = early }))

-- what a report prints but for the `early` line
abbrev pub ended_in : ℕ → List ℕ → Book → List ℕ
ended_in task old book = end_line book task ++ starts_in old book book.tasks

abbrev pub lines_in : Entry → List ℕ → Book → List ℕ
lines_in (End task tick) old book = ended_in task old book
lines_in (Drop task) old book = drop_line book task
lines_in (Refused code column) old book = []

abbrev pub told_in : Entry → List ℕ → StepOutcome → List ℕ
told_in entry old told =
    cond (is_granted told.answer) (lines_in entry old told.book ++ early_line told) (refused_line told.answer)

-- at most so many bytes, by how many tasks started
abbrev pub lines_most : Entry → ℕ → ℕ
lines_most (End task tick) started = 52 + 52 * started
lines_most (Drop task) started = 30
lines_most (Refused code column) started = 0

abbrev pub told_most : Entry → List ℕ → StepOutcome → ℕ
told_most entry old told = cond (is_granted told.answer) (lines_most entry (started old told.book) + 30) 41

-- a column that an answer can say
abbrev pub Short : Entry → Type 0
Short (End task tick) = 0 ≤ tick
Short (Drop task) = 0 ≤ task
Short (Refused code column) = column < 4294967296

-- what is accepted names a task
abbrev pub Named : Entry → ℕ → Type 0
Named (End task tick) tasks = (0 < task) × (task ≤ 64) × (tasks ≤ 64)
Named (Drop task) tasks = (0 < task) × (task ≤ 64) × (0 ≤ tasks)
Named (Refused code column) tasks = 0 ≤ tasks

-- the rule that a book is opened by
abbrev pub rule_of : Choice → Rule
rule_of Unsaid = EarlyStart
rule_of Chosen = Clash
rule_of (Malformed column) = EarlyStart
