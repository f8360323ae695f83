-- DEMAND 1. Every call answers one of its table's numbers, says what the table says, and leaves what document 01 says.
-- Tasks are counted from 0: a report or drop names task i by i + 1.
use Prim.Native.Nat.{ℕ, ◌+◌, ◌≤◌, ◌<◌}
use mathlib.Core.Path.{◌≡◌}
use mathlib.Core.Logic.{◌≢◌, ◌↔◌, ◌⊎◌}
use mathlib.Core.Bool.{true, false}
use mathlib.Core.List.{List, ◌++◌}
use lib.ListN.{length}
use Rattle.text.specs.Bytes.{bytes}
use Rattle.text.specs.Line.{line_at, field}
use Rattle.plan.specs.Answer.{granted}
use Rattle.plan.specs.Value.{at, task_at, ranges_ok, judged_answer, is_accepted}
use Rattle.plan.specs.Read.{tasks_of, text_task, form_answer, reading_of}
use Rattle.plan.specs.Write.{written_of, buffer_after}
use Rattle.plan.specs.declared.Plan.{Plan}
use Rattle.book.specs.Open.{opening_of}
use Rattle.book.specs.Report.{reported_of}
use Rattle.book.specs.Drop.{dropped_of}
use Rattle.book.specs.Early.{figure_of}
use Rattle.book.specs.declared.Book.{Book}
use Rattle.book.specs.declared.Rule.{Rule}
use Rattle.book.specs.declared.Rule.TheVariants.{EarlyStart}
use Rattle.log_read.specs.Entries.{entry_code, next_entry}
use Rattle.log_read.specs.Said.{Choice}
use Rattle.log_read.specs.Said.{Entry}
use Rattle.log_read.specs.Rules.{choice_of}
use Rattle.log_write.specs.Lines.{refused_line}
use Rattle.log_run.specs.Log.{open_log, told_of, chosen_log, log_of}
use Rattle.promises.specs.Runs.{SizedPlan, Sized}
use Rattle.promises.specs.Logs.{LogSays}
use Rattle.promises.proofs.LogWhole as the-log
use Rattle.promises.specs.Ladder.{Ladder}
use Rattle.promises.specs.Checks.{report_checks, drop_checks, pair_checks, plan_checks, reading_checks, FirstFaulty}
use Rattle.promises.specs.Says.{SharedHold, ReadyLate, FirstFaultyLine, LineCode, entry_answer, choice_answer, EntrySays, ChoiceSays, BeginsLate, ReadingSays, JudgedSays, OpeningSays, ReportSays, DropSays, FigureSays, WriteSays}
use Rattle.promises.proofs.Judged as judged
use Rattle.promises.proofs.Codes.EntryLine as entry-line
use Rattle.promises.proofs.Codes.RuleLine as rule_line
use Rattle.promises.proofs.Codes.Reading as read-codes
use Rattle.promises.proofs.Codes.Judging as judging
use Rattle.promises.proofs.Codes.ReadChecks as read-checks
use Rattle.promises.proofs.Codes.BookChecks as book-checks
use Rattle.promises.proofs.Codes.Book as book-codes
use Rattle.promises.proofs.Codes.Writing as write-codes

-- Refusal numbers: each is given exactly when its condition holds and no other that goes before it does
pub reading-checks : (text : List ℕ) → Ladder (reading_checks false text) (reading_of text).answer.code
reading-checks = read-checks.reading-ladder false

pub plan-checks : (plan : Plan) → Ladder (plan_checks plan) (judged_answer plan).code
plan-checks = read-checks.plan-ladder

pub report-checks : (book : Book) (task tick : ℕ) → Ladder (report_checks book task tick) (reported_of book task tick).answer.code
report-checks = book-checks.report-ladder

pub drop-checks : (book : Book) (task : ℕ) → Ladder (drop_checks book task) (dropped_of book task).answer.code
drop-checks = book-checks.drop-ladder

pub reading-code :
    (text : List ℕ)
    → ((reading_of text).answer.code ≤ 8)
    ⊎ (((reading_of text).answer.code ≡ 17) ⊎ (((reading_of text).answer.code ≡ 18) ⊎ ((reading_of text).answer.code ≡ 20)))
reading-code = read-codes.reading-code false

pub reading-says : (text : List ℕ) → ReadingSays false text (reading_of text)
reading-says = read-codes.reading-says false

-- refused with 3, 4, 20 or 18 it names its first faulty line, and the column of that line's leftmost fault of the kind
pub reading-column :
    (text : List ℕ) → LineCode (reading_of text).answer.code
    → (k : ℕ) × ((reading_of text).answer.first ≡ k + 1)
    × FirstFaultyLine false text (reading_of text).answer.code k (reading_of text).answer.second
reading-column = read-codes.reading-column false

-- with 20 a line of edition 2 that has a shared hold, and the column of its holds field
pub reading-shared :
    (text : List ℕ) → (reading_of text).answer.code ≡ 20
    → (k : ℕ) × ((reading_of text).answer.first ≡ k + 1) × SharedHold false text k (reading_of text).answer.second
reading-shared = read-codes.reading-shared false

-- with 18 a line of edition 2 whose ready tick is after its planned start, and the column of its ready field
pub reading-unready :
    (text : List ℕ) → (reading_of text).answer.code ≡ 18
    → (k : ℕ) × ((reading_of text).answer.first ≡ k + 1) × ReadyLate text k (reading_of text).answer.second
reading-unready = read-codes.reading-unready false

-- and a line of ends.txt with 3 or 4 names its column
pub entry-says : (n : ℕ) (text : List ℕ) → EntrySays n text (next_entry text)
entry-says = entry-line.entry-says

-- the first line of ends.txt chooses the clash rule where it is `rule`, `clash`; one whose word is `rule` and that is not so is
-- refused with 3 and names its column
pub choice-says : (text : List ℕ) → ChoiceSays text (choice_of text)
choice-says = rule_line.choice-says

-- either is answered in the log by its number and values, on line n or line 1
pub entry-answered : (n : ℕ) (book : Book) (entry : Entry) → entry_code entry ≢ 0 → (told_of n book entry).answer ≡ entry_answer n entry
entry-answered = the-log.entry-answered

pub choice-answered :
    (plan : Plan) (ends : List ℕ) (choice : Choice) → (choice_answer choice).code ≢ 0
    → chosen_log choice plan ends ≡ open_log plan EarlyStart ++ refused_line (choice_answer choice)
choice-answered = the-log.choice-answered

-- A refused plan, then a too long ends.txt, prints only the `refused` line; any other log begins with the opened book's lines
pub log-says : (text ends : List ℕ) → LogSays text ends
log-says = the-log.log-says

-- and 9 never stands in a log
pub log-never-nine :
    (text ends : List ℕ) (n : ℕ) → field (line_at (log_of text ends) n) 0 ≡ bytes "refused"
    → field (line_at (log_of text ends) n) 1 ≢ bytes "9"
log-never-nine = the-log.never-nine

-- refused with 6, 7 or 8 it names the first faulty pair, by a, then by b
pub reading-pair :
    (text : List ℕ) → 6 ≤ (reading_of text).answer.code → (reading_of text).answer.code ≤ 8
    → FirstFaulty (tasks_of text) (text_task false text) (reading_of text).answer.code (reading_of text).answer.first (reading_of text).answer.second
reading-pair = read-codes.reading-pair false

-- refused with 17 exactly when its lines are faultless, nothing follows them and no task is planned at 0
pub reading-late :
    (text : List ℕ)
    → ((reading_of text).answer.code ≡ 17)
    ↔ ((form_answer false text ≡ granted) × ((k : ℕ) → k < tasks_of text → (text_task false text k).begin ≢ 0))
reading-late = read-codes.reading-late false

-- and it names the least planned start
pub reading-start : (text : List ℕ) → (reading_of text).answer.code ≡ 17 → BeginsLate false text (reading_of text).answer.first
reading-start = read-codes.reading-start false

-- a plan is accepted exactly when its ranges are kept, some task is planned at 0 and no pair is faulty
pub plan-accepted :
    (plan : Plan)
    → (is_accepted plan ≡ true)
    ↔ ((ranges_ok plan ≡ true)
    × ((k : ℕ) × (k < plan.tasks) × (at plan.begin k ≡ 0))
    × ((a b : ℕ) → a ≤ b → b < plan.tasks → Ladder (pair_checks (task_at plan) a b) 0))
plan-accepted = judged.plan-accepted

-- a plan is judged 0, or refused by 9, 17, 6, 7 or 8, with what the table says besides
pub plan-code :
    (plan : Plan)
    → ((judged_answer plan).code ≡ 0)
    ⊎ (((judged_answer plan).code ≡ 9) ⊎ (((judged_answer plan).code ≡ 17) ⊎ ((6 ≤ (judged_answer plan).code) × ((judged_answer plan).code ≤ 8))))
plan-code = judging.judged-code

pub plan-says : (plan : Plan) → JudgedSays plan (judged_answer plan)
plan-says = judging.judged-says

pub opening_code : (plan : Plan) (rule : Rule) → ((opening_of plan rule).answer.code ≡ 0) ⊎ ((opening_of plan rule).answer.code ≡ 9)
opening_code = book-codes.opening_code

pub opening-says : (plan : Plan) (rule : Rule) → OpeningSays plan rule (opening_of plan rule)
opening-says = book-codes.opening-says

pub report-code :
    (book : Book) (task tick : ℕ)
    → ((reported_of book task tick).answer.code ≡ 0)
    ⊎ ((9 ≤ (reported_of book task tick).answer.code) × ((reported_of book task tick).answer.code ≤ 15))
report-code = book-codes.report-code

pub report-says : (book : Book) (task tick : ℕ) → ReportSays book task tick (reported_of book task tick)
report-says = book-codes.report-says

pub drop_code_lem :
    (book : Book) (task : ℕ)
    → ((dropped_of book task).answer.code ≡ 0)
    ⊎ (((dropped_of book task).answer.code ≡ 9) ⊎ (((dropped_of book task).answer.code ≡ 10) ⊎ ((dropped_of book task).answer.code ≡ 19)))
drop_code_lem = book-codes.drop_code_lem

pub drop-says : (book : Book) (task : ℕ) → DropSays book task (dropped_of book task)
drop-says = book-codes.drop-says

pub figure-code : (book : Book) → ((figure_of book).answer.code ≡ 0) ⊎ ((figure_of book).answer.code ≡ 9)
figure-code = book-codes.figure-code

pub figure-says : (book : Book) → FigureSays book (figure_of book)
figure-says = book-codes.figure-says

pub write-code :
    (plan : Plan) (out : List ℕ)
    → ((written_of plan (length out)).answer.code ≡ 0)
    ⊎ (((written_of plan (length out)).answer.code ≡ 9) ⊎ ((written_of plan (length out)).answer.code ≡ 16))
write-code = write-codes.write-code

pub write-says : (plan : Plan) (out : List ℕ) → WriteSays plan out (written_of plan (length out)) (buffer_after plan out)
write-says = write-codes.write-says

-- what is handed out has the arrays' lengths
pub reading-sized : (text : List ℕ) → SizedPlan (reading_of text).plan
reading-sized = read-codes.reading-sized false

pub opening-sized : (plan : Plan) (rule : Rule) → SizedPlan plan → Sized (opening_of plan rule).book
opening-sized = book-codes.opening-sized

pub report-sized : (book : Book) (task tick : ℕ) → Sized book → Sized (reported_of book task tick).book
report-sized = book-codes.reported-sized

pub drop-sized : (book : Book) (task : ℕ) → Sized book → Sized (dropped_of book task).book
drop-sized = book-codes.dropped-sized
