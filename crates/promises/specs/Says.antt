-- What each call may answer: the table's numbers, what they say besides, and what a refusal leaves.
use Rattle.std.specs.Prelude.{ℕ, ◌+◌, ◌≤◌, ◌<◌, ◌≡◌, ◌⊎◌, Bool, true, false, cond, ◌&&◌, List, [], ◌∷◌, eqb, length}
use Rattle.std.proofs.lemmas.List.Edits.{sets}
use Rattle.plan.specs.Answer.{refuse, granted}
use Rattle.plan.specs.Task.{Task}
use Rattle.plan.specs.Value.{at, task_at, ranges_ok, zero_plan, is_accepted}
use Rattle.text.specs.Line.{TAB, LF, has_line, skip, line_at, fields, field}
use Rattle.text.specs.Number.{value_of, most}
use Rattle.text_fields.specs.Items.{list_of, hold_of, has_shared}
use Rattle.plan.specs.Read.{sizes_ok, edition_of, boards_of, tasks_of, task_codes, text_task, form_answer}
use Rattle.plan.specs.Write.{text_of}
use Rattle.plan.specs.declared.Answer.{Answer}
use Rattle.plan.specs.declared.Plan.{Plan}
use Rattle.plan.specs.declared.Reading.{Reading}
use Rattle.plan.specs.declared.WriteResult.{WriteResult}
use Rattle.book.specs.Sound.{is_sound}
use Rattle.book.specs.Open.{blank_book, opened_on}
use Rattle.book.specs.declared.Book.{Book}
use Rattle.book.specs.declared.BookResult.{BookResult}
use Rattle.book.specs.declared.Rule.{Rule}
use Rattle.book.specs.declared.Figure.{Figure}
use Rattle.laws.specs.Digits.{digits_of}
use Rattle.laws.specs.Lists.{same}
use Rattle.laws.specs.Split.{before, begin_of}
use Rattle.text.specs.Bytes.{bytes}
use Rattle.log_read.specs.Entries.{end_codes, drop_codes}
use Rattle.log_read.specs.Said.{Entry}
use Rattle.log_read.specs.Said.Entry.{End, Drop, Refused}
use Rattle.log_read.specs.Rules.{rule_codes}
use Rattle.log_read.specs.Said.{Choice}
use Rattle.log_read.specs.Said.Choice.{Unsaid, Chosen, Malformed}
use Rattle.promises.specs.Checks.{FirstFaulty}
use Rattle.promises.specs.Columns.{ColumnSays}

-- A refused reading gives a plan of zeros
abbrev pub no_plan : ℕ → ℕ → ℕ → Reading
no_plan code first second = record { answer = refuse code first second; plan = zero_plan }

-- no task is planned at 0, and start is the least planned start
pub record StartsLate (tasks : ℕ) (task : ℕ → Task) (start : ℕ) : Type 0 where
  pub from : 1 ≤ start
  pub least : (k : ℕ) → k < tasks → start ≤ (task k).begin
  pub met : (k : ℕ) × (k < tasks) × ((task k).begin ≡ start)

-- so of a text whose lines are faultless and followed by nothing
pub record BeginsLate (mends : Bool) (text : List ℕ) (start : ℕ) : Type 0 where
  pub lines : form_answer mends text ≡ granted
  pub starts : StartsLate (tasks_of text) (text_task mends text) start

-- Of a text reading, and the second call, which mends, are said once.
-- the codes of the fields of task line k, and of its end
abbrev pub codes_of : Bool → List ℕ → ℕ → List ℕ
codes_of mends text k = task_codes mends (has_line (skip k text)) (edition_of text) (boards_of text) (tasks_of text) (line_at text k) k

-- a task line has seven fields, eight in edition 2
abbrev pub width_of : List ℕ → ℕ
width_of text = cond (eqb (edition_of text) 2) 8 7

-- 18: the line is one of edition 2 whose ready tick is after its planned start, and the column is that of the ready field
pub record ReadyLate (text : List ℕ) (k column : ℕ) : Type 0 where
  pub edition : edition_of text ≡ 2
  pub late : value_of (field (line_at text k) 4) < value_of (field (line_at text k) 3)
  pub ready_field : column ≡ begin_of TAB (line_at text k) 3 + 1

-- 20, not said by the second call: the line is one of edition 2 that has a shared hold, and the column is that of the holds field
pub record SharedHold (mends : Bool) (text : List ℕ) (k column : ℕ) : Type 0 where
  pub reads : mends ≡ false
  pub edition : edition_of text ≡ 2
  pub shared : has_shared (list_of hold_of (field (line_at text k) 6)) ≡ true
  pub holds_field : column ≡ begin_of TAB (line_at text k) 6 + 1

-- task line k is the first that is refused, and the column is that of its fault
pub record FirstFaultyLine (mends : Bool) (text : List ℕ) (code k column : ℕ) : Type 0 where
  pub from : 1 ≤ k
  pub to : k ≤ tasks_of text
  pub earlier : (j n : ℕ) → 1 ≤ j → j < k → n ≤ width_of text → at (codes_of mends text j) n ≡ 0
  pub shared : code ≡ 20 → SharedHold mends text k column
  pub unready : code ≡ 18 → ReadyLate text k column
  pub says : ColumnSays (width_of text) (has_line (skip k text)) (line_at text k) (codes_of mends text k) code column

-- what a line may be refused by
abbrev pub LineCode : ℕ → Type 0
LineCode code = (code ≡ 3) ⊎ ((code ≡ 4) ⊎ ((code ≡ 20) ⊎ (code ≡ 18)))

pub data ReadingSays (mends : Bool) (text : List ℕ) (r : Reading) : Type 0 where
  read : r.answer ≡ granted → is_accepted r.plan ≡ true → ReadingSays mends text r
  too_long : 32768 < length text → r ≡ no_plan 1 0 0 → ReadingSays mends text r
  first_line : (has_line text && sizes_ok mends (line_at text 0)) ≡ false → r ≡ no_plan 2 1 0 → ReadingSays mends text r
  task_line :
      (code k column : ℕ) → LineCode code → FirstFaultyLine mends text code k column → r ≡ no_plan code (k + 1) column
      → ReadingSays mends text r
  more_bytes : 0 < length (skip (tasks_of text + 1) text) → r ≡ no_plan 5 (tasks_of text + 2) 0 → ReadingSays mends text r
  late : (start : ℕ) → BeginsLate mends text start → r ≡ no_plan 17 start 0 → ReadingSays mends text r
  faulty_pair : (code a b : ℕ) → FirstFaulty (tasks_of text) (text_task mends text) code a b → r ≡ no_plan code a b → ReadingSays mends text r

-- what a plan handed in as a value is judged
pub data JudgedSays (plan : Plan) (r : Answer) : Type 0 where
  accepted : is_accepted plan ≡ true → r ≡ granted → JudgedSays plan r
  unkept : ranges_ok plan ≡ false → r ≡ refuse 9 0 0 → JudgedSays plan r
  late : (start : ℕ) → ranges_ok plan ≡ true → StartsLate plan.tasks (task_at plan) start → r ≡ refuse 17 start 0 → JudgedSays plan r
  faulty_pair :
      (code a b : ℕ) → ranges_ok plan ≡ true → FirstFaulty plan.tasks (task_at plan) code a b → r ≡ refuse code a b
      → JudgedSays plan r

pub data OpeningSays (plan : Plan) (rule : Rule) (r : BookResult) : Type 0 where
  opened : is_accepted plan ≡ true → r ≡ record { answer = granted; book = opened_on plan rule } → OpeningSays plan rule r
  refused : is_accepted plan ≡ false → r ≡ record { answer = refuse 9 0 0; book = blank_book 0 zero_plan } → OpeningSays plan rule r

pub data ReportSays (book : Book) (task tick : ℕ) (r : BookResult) : Type 0 where
  taken : is_sound book ≡ true → r.answer ≡ granted → ReportSays book task tick r
  unsound : is_sound book ≡ false → r ≡ record { answer = refuse 9 0 0; book = book } → ReportSays book task tick r
  refused :
      (code : ℕ) → is_sound book ≡ true → 10 ≤ code → code ≤ 15
      → r ≡ record { answer = refuse code task tick; book = book } → ReportSays book task tick r

pub data DropSays (book : Book) (task : ℕ) (r : BookResult) : Type 0 where
  taken : is_sound book ≡ true → r.answer ≡ granted → DropSays book task r
  unsound : is_sound book ≡ false → r ≡ record { answer = refuse 9 0 0; book = book } → DropSays book task r
  refused :
      (code : ℕ) → is_sound book ≡ true → (code ≡ 10) ⊎ (code ≡ 19)
      → r ≡ record { answer = refuse code task 0; book = book } → DropSays book task r

pub data FigureSays (book : Book) (r : Figure) : Type 0 where
  shown : is_sound book ≡ true → r.answer ≡ granted → FigureSays book r
  refused : is_sound book ≡ false → r ≡ record { answer = refuse 9 0 0; early = 0 } → FigureSays book r

pub data WriteSays (plan : Plan) (out : List ℕ) (r : WriteResult) (after : List ℕ) : Type 0 where
  written :
      is_accepted plan ≡ true → length (text_of plan) ≤ length out
      → r ≡ record { answer = granted; length = length (text_of plan) }
      → after ≡ sets out 0 (text_of plan) → WriteSays plan out r after
  unaccepted :
      is_accepted plan ≡ false → r ≡ record { answer = refuse 9 0 0; length = 0 } → after ≡ out
      → WriteSays plan out r after
  too_short :
      is_accepted plan ≡ true → length out < length (text_of plan)
      → r ≡ record { answer = refuse 16 (length (text_of plan)) 0; length = 0 } → after ≡ out → WriteSays plan out r after

-- what line n of ends.txt is answered by what it says: nothing is refused, or the number with line and column
abbrev pub entry_answer : ℕ → Entry → Answer
entry_answer n (End task tick) = granted
entry_answer n (Drop task) = granted
entry_answer n (Refused code column) = refuse code n column

-- and its first line, by what it says of the rule
abbrev pub choice_answer : Choice → Answer
choice_answer Unsaid = granted
choice_answer Chosen = granted
choice_answer (Malformed column) = refuse 3 1 column

-- what line n, which begins a rest of the text, says: `end`, task, tick has three fields, `drop`, task two
pub data EntrySays (n : ℕ) (text : List ℕ) (r : Entry) : Type 0 where
  an_end :
      (task tick : ℕ) → task ≤ most → tick ≤ most → has_line text ≡ true
      → fields (before LF text) ≡ bytes "end" ∷ digits_of task ∷ digits_of tick ∷ [] → r ≡ End task tick → EntrySays n text r
  a_drop :
      (task : ℕ) → task ≤ most → has_line text ≡ true → fields (before LF text) ≡ bytes "drop" ∷ digits_of task ∷ []
      → r ≡ Drop task → EntrySays n text r
  refused_drop :
      (code column : ℕ) → same (field (before LF text) 0) (bytes "drop") ≡ true → (code ≡ 3) ⊎ (code ≡ 4)
      → ColumnSays 2 (has_line text) (before LF text) (drop_codes (has_line text) (before LF text)) code column
      → entry_answer n r ≡ refuse code n column → EntrySays n text r
  refused_end :
      (code column : ℕ) → same (field (before LF text) 0) (bytes "drop") ≡ false → (code ≡ 3) ⊎ (code ≡ 4)
      → ColumnSays 3 (has_line text) (before LF text) (end_codes (has_line text) (before LF text)) code column
      → entry_answer n r ≡ refuse code n column → EntrySays n text r

-- what the first line of a text chooses: nothing where its word is not `rule`; `rule`, `clash` has two fields
pub data ChoiceSays (text : List ℕ) (r : Choice) : Type 0 where
  unsaid : same (field (before LF text) 0) (bytes "rule") ≡ false → r ≡ Unsaid → ChoiceSays text r
  chosen : before LF text ≡ bytes "rule\tclash" → has_line text ≡ true → r ≡ Chosen → ChoiceSays text r
  malformed :
      (column : ℕ) → same (field (before LF text) 0) (bytes "rule") ≡ true
      → ColumnSays 2 (has_line text) (before LF text) (rule_codes (has_line text) (before LF text)) 3 column
      → choice_answer r ≡ refuse 3 1 column → ChoiceSays text r
