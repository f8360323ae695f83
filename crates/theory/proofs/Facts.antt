-- A lawful plan and a sound book as facts, and a run of reports and drops.
use mathlib.Core.Path.{◌≡◌}
use mathlib.Core.Logic.{◌≢◌}
use mathlib.Core.Bool.{true, cond}
use mathlib.Core.List.{List, [], ◌∷◌}
use Prim.Native.Nat.{ℕ, ◌≤◌, ◌<◌}
use lib.Dec.{eqb}
use Rattle.theory.specs.Plan.{Plan}
use Rattle.theory.specs.Book.{Book, limit, all_ended, due, ready_due, last_end}
use Rattle.theory.specs.Report.{report_code, drop_code, next, drop_it}
use Rattle.theory.specs.Words.Events.{Event, ends, drops}

-- all that the promises ask of a plan
pub record Lawful (plan : Plan) : Type 0 where
  pub ready : (i : ℕ) → i < plan.tasks → plan.ready i ≤ plan.begin i
  pub lasts : (i : ℕ) → i < plan.tasks → plan.begin i < plan.finish i
  pub before : (i j : ℕ) → i < plan.tasks → j < plan.tasks → plan.waits i j ≡ true → plan.finish j ≤ plan.begin i

-- one it waits for that has not ended
pub record Blocker (plan : Plan) (mark : ℕ → ℕ) (i : ℕ) : Type 0 where
  pub who : ℕ
  pub task : who < plan.tasks
  pub held : plan.waits i who ≡ true
  pub still : mark who ≢ 2

-- one that it waits for
pub record Waiter (plan : Plan) (i : ℕ) : Type 0 where
  pub who : ℕ
  pub task : who < plan.tasks
  pub held : plan.waits i who ≡ true

-- a task's state, over what it asks of a waiting task
pub data TaskOk (Waits : ℕ → Type 0) (plan : Plan) (book : Book) (i : ℕ) : Type 0 where
  is-waiting :
      book.mark i ≡ 0 → book.dropped i ≤ 1 → Waits i → book.start i ≡ 0 → book.end i ≡ 0 → TaskOk Waits plan book i
  is-running :
      book.mark i ≡ 1 → book.dropped i ≡ 0 → all_ended plan book.mark i ≡ true
      → book.start i ≡ ready_due plan book.end i → book.end i ≡ 0 → book.clock ≤ limit plan book i
      → TaskOk Waits plan book i
  has_ended :
      book.mark i ≡ 2 → book.dropped i ≡ 0 → all_ended plan book.mark i ≡ true
      → book.start i ≡ ready_due plan book.end i → book.start i < book.end i → book.end i ≤ limit plan book i
      → book.end i ≤ book.clock → TaskOk Waits plan book i
  was-skipped :
      book.mark i ≡ 2 → book.dropped i ≡ 1 → Waiter plan i → all_ended plan book.mark i ≡ true
      → book.start i ≡ due plan book.end i → book.end i ≡ book.start i → book.end i ≤ book.clock
      → TaskOk Waits plan book i

pub record Sound (plan : Plan) (book : Book) : Type 0 where
  pub task : (i : ℕ) → i < plan.tasks → TaskOk (Blocker plan book.mark) plan book i
  pub clock-is : book.clock ≡ last_end plan book

-- the code of a report or drop, and the book after an accepted one
abbrev pub event_code : Plan → Book → Event → ℕ
event_code plan book (ends k tick) = report_code plan book k tick
event_code plan book (drops k) = drop_code plan book k

abbrev pub step_to : Plan → Book → Event → Book
step_to plan book (ends k tick) = next plan book k tick
step_to plan book (drops k) = drop_it book k

-- a refused report or drop gives the book it was given
unfoldable pub book_after : Plan → Book → Event → Book
book_after plan book event = cond (eqb (event_code plan book event) 0) (step_to plan book event) book

unfoldable pub run : Plan → Book → List Event → Book
run plan book [] = book
run plan book (event ∷ later) = run plan (book_after plan book event) later

-- the accepted ones of a list of reports and drops
unfoldable pub accepted : Plan → Book → List Event → List Event
accepted plan book [] = []
accepted plan book (event ∷ later) =
    let rest = accepted plan (book_after plan book event) later in
    cond (eqb (event_code plan book event) 0) (event ∷ rest) rest
