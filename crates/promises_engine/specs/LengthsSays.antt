-- What lengths.txt may say and be refused by, and what is printed.
use Rattle.std.specs.Prelude.{ℕ, ◌+◌, ◌≤◌, ◌<◌, ◌≡◌, ◌⊎◌, ◌≢◌, Bool, true, false, List, [], ◌∷◌, length}
use Rattle.laws.specs.Digits.{digits_of}
use Rattle.laws.specs.Lists.{any_of, same}
use Rattle.laws.specs.Split.{before, after}
use Rattle.text.specs.Bytes.{bytes}
use Rattle.text.specs.Line.{LF, has_line, fields, field}
use Rattle.text.specs.Number.{is_number, value_of, most}
use Rattle.plan.specs.Answer.{refuse, granted}
use Rattle.plan.specs.Read.{reading_of}
use Rattle.plan.specs.declared.Plan.{Plan}
use Rattle.book.specs.declared.Rule.{Rule}
use Rattle.book.specs.declared.Rule.TheVariants.{EarlyStart, Clash}
use Rattle.engine.specs.Timetable.{timetable_of}
use Rattle.engine.specs.declared.Timetable.{Timetable}
use Rattle.log_read.specs.Rules.{choice_of}
use Rattle.log_read.specs.Said.Choice.{Unsaid, Chosen, Malformed}
use Rattle.log_write.specs.Lines.{refused_line}
use Rattle.engine_read.specs.Lines.{says_length, says_drop, length_codes, drop_codes, next_said, said_answer}
use Rattle.engine_read.specs.Whole.{Told, asked_not, asked_by, asked_of}
use Rattle.engine_read.specs.declared.EngineInput.{EngineInput}
use Rattle.engine_read.specs.Said.{LengthLine}
use Rattle.engine_read.specs.Said.{Length, Drop}
use Rattle.engine_write.specs.Rows.{row_lines}
use Rattle.promises.specs.Columns.{ColumnSays}

-- whether an earlier line gives that task a length, or drops it
abbrev pub length_before : List LengthLine → ℕ → Bool
length_before earlier task = any_of (says_length task) earlier

abbrev pub drop_before : List LengthLine → ℕ → Bool
drop_before earlier task = any_of (says_drop task) earlier

-- what line n, which begins a rest of the text, says: exactly its word and its numbers' digits; or 3 or 4 and such a column
pub data LengthLineSays (tasks n : ℕ) (earlier : List LengthLine) (text : List ℕ) (r : LengthLine) : Type 0 where
  a_length :
      (task ticks : ℕ) → 1 ≤ task → task ≤ tasks → ticks ≤ most → length_before earlier task ≡ false → has_line text ≡ true
      → fields (before LF text) ≡ bytes "length" ∷ digits_of task ∷ digits_of ticks ∷ [] → r ≡ Length task ticks
      → LengthLineSays tasks n earlier text r
  a_drop :
      (task : ℕ) → 1 ≤ task → task ≤ tasks → drop_before earlier task ≡ false → has_line text ≡ true
      → fields (before LF text) ≡ bytes "drop" ∷ digits_of task ∷ [] → r ≡ Drop task → LengthLineSays tasks n earlier text r
  refused_drop :
      (code column : ℕ) → same (field (before LF text) 0) (bytes "drop") ≡ true → (code ≡ 3) ⊎ (code ≡ 4)
      → ColumnSays 2 (has_line text) (before LF text) (drop_codes tasks (drop_before earlier) (has_line text) (before LF text)) code column
      → said_answer n r ≡ refuse code n column → LengthLineSays tasks n earlier text r
  refused_length :
      (code column : ℕ) → same (field (before LF text) 0) (bytes "drop") ≡ false → (code ≡ 3) ⊎ (code ≡ 4)
      → ColumnSays 3 (has_line text) (before LF text) (length_codes tasks (length_before earlier) (has_line text) (before LF text)) code column
      → said_answer n r ≡ refuse code n column → LengthLineSays tasks n earlier text r

-- when a task field is 4: a number outside 1 to T, or a task of which an earlier line says the same
pub record TaskFour (tasks : ℕ) (earlier : ℕ → Bool) (s : List ℕ) : Type 0 where
  pub spelt : is_number s ≡ true
  pub wrong : (value_of s < 1) ⊎ ((tasks < value_of s) ⊎ (earlier (value_of s) ≡ true))

-- the lines of a text from line n on, after the earlier ones: the first that is refused is the last that is read
pub data LinesSay (tasks : ℕ) : ℕ → List LengthLine → List ℕ → Told → Type 0 where
  no_more :
      {n : ℕ} {earlier : List LengthLine} {text : List ℕ} → length text ≡ 0 → LinesSay tasks n earlier text (record { answer = granted; said = earlier })
  refused :
      {n : ℕ} {earlier : List LengthLine} {text : List ℕ} → 0 < length text → (said_answer n (next_said tasks earlier text)).code ≢ 0
      → LinesSay tasks n earlier text (record { answer = said_answer n (next_said tasks earlier text); said = earlier })
  goes_on :
      {n : ℕ} {earlier : List LengthLine} {text : List ℕ} {told : Told} → 0 < length text → (said_answer n (next_said tasks earlier text)).code ≡ 0
      → LinesSay tasks (n + 1) (next_said tasks earlier text ∷ earlier) (after LF text) told → LinesSay tasks n earlier text told

-- the rule, and the number and text of the first line that says a length or a drop
pub data Begins (text : List ℕ) : Rule → ℕ → List ℕ → Type 0 where
  by_early_start : choice_of text ≡ Unsaid → Begins text EarlyStart 1 text
  by_clash : choice_of text ≡ Chosen → Begins text Clash 2 (after LF text)

-- what lengths.txt asks: 1; then its `rule` line; then its lines
pub data AskedSays (tasks : ℕ) (begin finish text : List ℕ) (r : EngineInput) : Type 0 where
  too_long : 32768 < length text → r ≡ asked_not (refuse 1 0 0) → AskedSays tasks begin finish text r
  rule_line : length text ≤ 32768 → (column : ℕ) → choice_of text ≡ Malformed column → r ≡ asked_not (refuse 3 1 column) → AskedSays tasks begin finish text r
  lines :
      length text ≤ 32768 → (rule : Rule) (n : ℕ) (rest : List ℕ) (told : Told) → Begins text rule n rest → LinesSay tasks n [] rest told
      → r ≡ asked_by rule tasks begin finish told → AskedSays tasks begin finish text r

-- the timetable that the two texts ask for
abbrev pub read_plan : List ℕ → Plan
read_plan plan = (reading_of plan).plan

abbrev pub asked_in : List ℕ → List ℕ → EngineInput
asked_in plan lengths = asked_of (read_plan plan).tasks (read_plan plan).begin (read_plan plan).finish lengths

abbrev pub table_for : List ℕ → List ℕ → Timetable
table_for plan lengths = timetable_of (read_plan plan) (asked_in plan lengths).rule (asked_in plan lengths).given

-- what is printed: one refusal as the only line, the plan's before that of lengths.txt before the engine's; or a line a task
pub data TableSays (plan lengths text : List ℕ) : Type 0 where
  plan_refused : (reading_of plan).answer.code ≢ 0 → text ≡ refused_line (reading_of plan).answer → TableSays plan lengths text
  lengths_refused :
      (reading_of plan).answer.code ≡ 0 → (asked_in plan lengths).answer.code ≢ 0 → text ≡ refused_line (asked_in plan lengths).answer
      → TableSays plan lengths text
  engine_refused :
      (reading_of plan).answer.code ≡ 0 → (asked_in plan lengths).answer.code ≡ 0 → (table_for plan lengths).answer.code ≢ 0
      → text ≡ refused_line (table_for plan lengths).answer → TableSays plan lengths text
  printed :
      (reading_of plan).answer.code ≡ 0 → (asked_in plan lengths).answer.code ≡ 0 → (table_for plan lengths).answer.code ≡ 0
      → text ≡ row_lines (read_plan plan).board (table_for plan lengths).start (table_for plan lengths).end (read_plan plan).tasks
      → TableSays plan lengths text
