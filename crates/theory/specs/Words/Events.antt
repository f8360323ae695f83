-- Words of the promises: what the dispatcher is told, and what an accepted report or drop says.
use Rattle.std.specs.Prelude.{◌≡◌, ◌≢◌, ℕ, ◌≤◌, ◌<◌}
use mathlib.Core.List.{List, [], ◌∷◌, Memᴰ}
use Rattle.theory.specs.Plan.{Plan}
use Rattle.theory.specs.Book.{Book, limit}

-- what the dispatcher is told: a task has ended at a tick, or a task is dropped
pub data Event : Type 0 where
  ends : (task tick : ℕ) → Event
  drops : (task : ℕ) → Event

-- it says that a task has ended
abbrev pub IsReport : Event → Type 0
IsReport (ends task tick) = Unit
IsReport (drops task) = ⊥

-- no event stands twice
abbrev pub Once : List Event → Type 0
Once [] = Unit
Once (event ∷ later) = (Memᴰ event later → ⊥) × Once later

-- none of the codes 10 to 15 applies
pub record Accepts (plan : Plan) (book : Book) (k tick : ℕ) : Type 0 where
  pub task : k < plan.tasks
  pub runs : book.mark k ≡ 1
  pub now : book.clock ≤ tick
  pub after : book.start k < tick
  pub in_time : tick ≤ limit plan book k
  pub others : (j : ℕ) → j < plan.tasks → book.mark j ≡ 1 → tick ≤ limit plan book j

-- neither 10 nor 19 applies
pub record AcceptsDrop (plan : Plan) (book : Book) (k : ℕ) : Type 0 where
  pub task : k < plan.tasks
  pub waits : book.mark k ≡ 0
  pub new : book.dropped k ≢ 1
