-- The words of the engine's promises. Tasks are counted from 0: a refusal names task i by i + 1.
use Rattle.std.specs.Prelude.{ℕ, ◌+◌, ◌-◌, ◌≤◌, ◌<◌, ◌≡◌, ◌≢◌, ◌↔◌, ◌⊎◌, true, false, List, [], ◌∷◌}
use Rattle.plan.specs.Value.{at, is_accepted}
use Rattle.plan.specs.declared.Plan.{Plan}
use Rattle.book_view.specs.View.{plan_for}
use Rattle.book.specs.Open.{rule_number}
use Rattle.book.specs.declared.Book.{Book}
use Rattle.book.specs.declared.Rule.{Rule}
use Rattle.engine.specs.declared.Lengths.{Lengths}
use Rattle.engine.specs.declared.Timetable.{Timetable}
use Rattle.promises.specs.Ladder.{Rung, ◌when◌}
use Rattle.promises.specs.Runs.{Ended, Dropped, start_of, end_of}

-- task i waits for task j by a rule
abbrev pub WaitsBy : Plan → Rule → ℕ → ℕ → Type 0
WaitsBy plan rule i j = (plan_for (rule_number rule) plan).waits i j ≡ true

-- dropped in what is given: any number but 1 says that it is not
abbrev pub IsGone : Lengths → ℕ → Type 0
IsGone given i = at given.dropped i ≡ 1

-- not dropped, and its length is below 1 or above planned finish − planned start
abbrev pub BadLength : Plan → Lengths → ℕ → Type 0
BadLength plan given i =
    (IsGone given i → ⊥) × ((at given.length i < 1) ⊎ (at plan.finish i - at plan.begin i < at given.length i))

-- dropped, and waits for nobody
abbrev pub IdleDrop : Plan → Rule → Lengths → ℕ → Type 0
IdleDrop plan rule given i = IsGone given i × ((j : ℕ) → j < plan.tasks → WaitsBy plan rule i j → ⊥)

-- one of the tasks is so
abbrev pub Some : ℕ → (ℕ → Type 0) → Type 0
Some tasks So = (i : ℕ) × (i < tasks) × So i

-- task k is so, and no lower one
pub record IsLowest (tasks : ℕ) (So : ℕ → Type 0) (k : ℕ) : Type 0 where
  pub task : k < tasks
  pub so : So k
  pub lower : (j : ℕ) → j < k → So j → ⊥

-- the refusals in the order of the checks
abbrev pub timetable_checks : Plan → Rule → Lengths → List Rung
timetable_checks plan rule given =
    9 when (is_accepted plan ≡ false)
    ∷ 22 when (Some plan.tasks (BadLength plan given))
    ∷ 19 when (Some plan.tasks (IdleDrop plan rule given))
    ∷ []

-- what a refusal says besides, and that it gives a timetable of zeros
pub record TimetableSays (plan : Plan) (rule : Rule) (given : Lengths) (table : Timetable) : Type 0 where
  pub second : table.answer.second ≡ 0
  pub said_9 : table.answer.code ≡ 9 → table.answer.first ≡ 0
  pub said_22 :
      table.answer.code ≡ 22 → (k : ℕ) × IsLowest plan.tasks (BadLength plan given) k × (table.answer.first ≡ k + 1)
  pub said_19 :
      table.answer.code ≡ 19 → (k : ℕ) × IsLowest plan.tasks (IdleDrop plan rule given) k × (table.answer.first ≡ k + 1)
  pub zeros : table.answer.code ≢ 0 → (i : ℕ) → (at table.start i ≡ 0) × (at table.end i ≡ 0)
  pub past : (i : ℕ) → plan.tasks ≤ i → (at table.start i ≡ 0) × (at table.end i ≡ 0)

-- the same drops, and the same lengths of the tasks that are not dropped
abbrev pub Alike : ℕ → Lengths → Lengths → Type 0
Alike tasks given other =
    (i : ℕ) → i < tasks
    → (IsGone given i ↔ IsGone other i) × ((IsGone given i → ⊥) → at given.length i ≡ at other.length i)

-- every task has ended, and started and ended when the timetable says
pub record AsTold (plan : Plan) (table : Timetable) (book : Book) : Type 0 where
  pub over : (i : ℕ) → i < plan.tasks → Ended book i
  pub starts : (i : ℕ) → i < plan.tasks → start_of book i ≡ at table.start i
  pub ends : (i : ℕ) → i < plan.tasks → end_of book i ≡ at table.end i

-- a book's own drops, and end − start of every task that is not dropped
abbrev pub OwnLengths : Book → Lengths → Type 0
OwnLengths book given =
    (i : ℕ) → i < book.tasks
    → (IsGone given i ↔ Dropped book i) × ((Dropped book i → ⊥) → at given.length i ≡ end_of book i - start_of book i)
