-- When each refusal number is given, and the order of the checks.
use Rattle.std.specs.Prelude.{ℕ, ◌+◌, ◌-◌, ◌≤◌, ◌<◌, ◌≡◌, ◌≢◌, ◌⊎◌, Bool, true, false, cond, List, [], ◌∷◌, eqb, length}
use Rattle.text.specs.Bytes.{bytes}
use Rattle.text.specs.Line.{has_line, skip, line_at, fields, field}
use Rattle.text.specs.Number.{is_number, value_of, most}
use Rattle.text_fields.specs.Items.{is_list, list_of, is_hold, hold_of, has_shared, holds_ok, after_ok}
use Rattle.plan.specs.Task.{Task}
use Rattle.plan.specs.Value.{task_at, ranges_ok}
use Rattle.plan.specs.Read.{edition_of, boards_of, tasks_of, text_task}
use Rattle.plan.specs.declared.Plan.{Plan}
use Rattle.book.specs.Sound.{is_sound}
use Rattle.book.specs.declared.Book.{Book}
use Rattle.promises.specs.Ladder.{Rung, ◌when◌, Ladder}
use Rattle.promises.specs.Clashes.{Overlap, OneBoard, OneDrive, BreaksAfter}
use Rattle.promises.specs.Runs.{Waiting, Running, Ended, Started, Dropped, start_of, limit_of}

-- some other running task's limit is before the tick
pub record OtherPast (book : Book) (task tick : ℕ) : Type 0 where
  pub who : ℕ
  pub known : who < book.tasks
  pub other : who ≢ task
  pub runs : Running book who
  pub past : limit_of book who < tick

abbrev pub report_checks : Book → ℕ → ℕ → List Rung
report_checks book task tick =
    9 when (is_sound book ≡ false)
    ∷ 10 when ((task < 1) ⊎ (book.tasks < task))
    ∷ 11 when (Waiting book (task - 1) ⊎ Ended book (task - 1))
    ∷ 12 when (tick < book.clock)
    ∷ 13 when (tick ≤ start_of book (task - 1))
    ∷ 14 when (limit_of book (task - 1) < tick)
    ∷ 15 when (OtherPast book (task - 1) tick)
    ∷ []

abbrev pub drop_checks : Book → ℕ → List Rung
drop_checks book task =
    9 when (is_sound book ≡ false)
    ∷ 10 when ((task < 1) ⊎ (book.tasks < task))
    ∷ 19 when (Started book (task - 1) ⊎ Dropped book (task - 1))
    ∷ []

-- the pair (a, b), tasks counted from 0; (a, a) only for code 8
abbrev pub pair_checks : (ℕ → Task) → ℕ → ℕ → List Rung
pair_checks task a b =
    6 when ((a ≢ b) × OneBoard task a b × Overlap (task a) (task b))
    ∷ 7 when ((a ≢ b) × Overlap (task a) (task b) × OneDrive task a b)
    ∷ 8 when (BreaksAfter task a b ⊎ BreaksAfter task b a)
    ∷ []

-- (x, y) is examined before (a, b): by a, then by b
abbrev pub Before : ℕ → ℕ → ℕ → ℕ → Type 0
Before x y a b = (x < a) ⊎ ((x ≡ a) × (y < b))

-- the first faulty pair of these tasks, counted from 1; (a, a) only for code 8
pub record FirstFaulty (tasks : ℕ) (task : ℕ → Task) (code a b : ℕ) : Type 0 where
  pub from : 1 ≤ a
  pub ordered : a ≤ b
  pub to : b ≤ tasks
  pub number : (6 ≤ code) × (code ≤ 8)
  pub faulty : Ladder (pair_checks task (a - 1) (b - 1)) code
  pub first : (x y : ℕ) → 1 ≤ x → x ≤ y → y ≤ tasks → Before x y a b → Ladder (pair_checks task (x - 1) (y - 1)) 0
  pub two : code ≢ 8 → a < b

-- it has this code
abbrev pub PairBy : ℕ → (ℕ → Task) → ℕ → Type 0
PairBy tasks task code = (a : ℕ) × (b : ℕ) × FirstFaulty tasks task code a b

-- of tasks whose lines, or arrays, are faultless: 17, then pair by pair 6, 7, 8
abbrev pub tasks_checks : ℕ → (ℕ → Task) → List Rung
tasks_checks tasks task =
    17 when ((k : ℕ) → k < tasks → (task k).begin ≢ 0)
    ∷ 6 when (PairBy tasks task 6)
    ∷ 7 when (PairBy tasks task 7)
    ∷ 8 when (PairBy tasks task 8)
    ∷ []

-- a plan handed in as a value
abbrev pub plan_checks : Plan → List Rung
plan_checks plan = 9 when (ranges_ok plan ≡ false) ∷ tasks_checks plan.tasks (task_at plan)

-- First line: `plan`, edition, boards B, tasks T; `1` or `2` is the edition, `2` alone for the second call, which mends
pub record AsStated (mends : Bool) (text : List ℕ) : Type 0 where
  pub line : has_line text ≡ true
  pub count : length (fields (line_at text 0)) ≡ 4
  pub word : field (line_at text 0) 0 ≡ bytes "plan"
  pub numbers : (n : ℕ) → 1 ≤ n → n ≤ 3 → is_number (field (line_at text 0) n) ≡ true
  pub edition : (cond mends 2 1 ≤ edition_of text) × (edition_of text ≤ 2)
  pub boards : (1 ≤ boards_of text) × (boards_of text ≤ 8)
  pub tasks : (1 ≤ tasks_of text) × (tasks_of text ≤ 64)

-- task line k: `task`, number, board, in edition 2 ready, planned start, planned finish, holds, after
module _ (text : List ℕ) (k : ℕ) where
  -- the field of the planned start, counted from 0
  abbrev pub start_field : ℕ
  start_field = cond (eqb (edition_of text) 2) 4 3

  -- a line is missing, has too few or too many fields or no LF, has a wrong word, or a misspelt number or list
  pub data Misspelt : Type 0 where
    line : has_line (skip k text) ≡ false → Misspelt
    count : length (fields (line_at text k)) ≢ start_field + 4 → Misspelt
    word : field (line_at text k) 0 ≢ bytes "task" → Misspelt
    number : (n : ℕ) → 1 ≤ n → n ≤ start_field + 1 → is_number (field (line_at text k) n) ≡ false → Misspelt
    holds : is_list is_hold (field (line_at text k) (start_field + 2)) ≡ false → Misspelt
    after : is_list is_number (field (line_at text k) (start_field + 3)) ≡ false → Misspelt

  -- a number is out of range, the task number is not the line's, or a list does not rise
  pub data OutOfRange : Type 0 where
    number : value_of (field (line_at text k) 1) ≢ k → OutOfRange
    board : (value_of (field (line_at text k) 2) < 1) ⊎ (boards_of text < value_of (field (line_at text k) 2)) → OutOfRange
    tick : (n : ℕ) → 3 ≤ n → n ≤ start_field + 1 → most < value_of (field (line_at text k) n) → OutOfRange
    finish :
        value_of (field (line_at text k) (start_field + 1)) ≤ value_of (field (line_at text k) start_field) → OutOfRange
    holds : holds_ok (list_of hold_of (field (line_at text k) (start_field + 2))) ≡ false → OutOfRange
    after : after_ok (tasks_of text) (list_of value_of (field (line_at text k) (start_field + 3))) ≡ false → OutOfRange

abbrev pub line_checks : Bool → List ℕ → ℕ → List Rung
line_checks mends text k =
    3 when (Misspelt text k)
    ∷ 4 when (OutOfRange text k)
    ∷ 20 when ((mends ≡ false) × (edition_of text ≡ 2) × (has_shared (list_of hold_of (field (line_at text k) 6)) ≡ true))
    ∷ 18 when ((edition_of text ≡ 2) × (value_of (field (line_at text k) 4) < value_of (field (line_at text k) 3)))
    ∷ []

-- the first faulty task line has this code
pub record LineBy (mends : Bool) (text : List ℕ) (code : ℕ) : Type 0 where
  pub k : ℕ
  pub from : 1 ≤ k
  pub to : k ≤ tasks_of text
  pub faulty : Ladder (line_checks mends text k) code
  pub first : (j : ℕ) → 1 ≤ j → j < k → Ladder (line_checks mends text j) 0

-- Checks: 1; 2; then line by line 3, 4, 20, 18; 5; 17; then pair by pair 6, 7, 8
abbrev pub reading_checks : Bool → List ℕ → List Rung
reading_checks mends text =
    1 when (32768 < length text)
    ∷ 2 when (AsStated mends text → ⊥)
    ∷ 3 when (LineBy mends text 3)
    ∷ 4 when (LineBy mends text 4)
    ∷ 20 when (LineBy mends text 20)
    ∷ 18 when (LineBy mends text 18)
    ∷ 5 when (0 < length (skip (tasks_of text + 1) text))
    ∷ tasks_checks (tasks_of text) (text_task mends text)
