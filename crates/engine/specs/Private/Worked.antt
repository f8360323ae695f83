-- What the engine's own functions say and ask, by lent arrays.
use Rattle.std.specs.Prelude.{ℕ, ◌≤◌, ◌<◌, ◌≡◌, Bool, true, false, not, ◌&&◌, List, [], eqb, Option, None, Some}
use Rattle.std.specs.Int.Bits.{bit_and}
use Rattle.laws.specs.Bits.{has}
use Rattle.theory.specs.Plan as theory-plan
use Rattle.theory.specs.Times.{start_time, end_time}
use Rattle.theory.specs.Words.Lines.{TwoLines}
use Rattle.plan.specs.Value.{at}
use Rattle.book_view.specs.View.{plan_seen}

-- a timetable looks at no planned time
abbrev pub plan_timed : ℕ → List ℕ → List ℕ → theory-plan.Plan
plan_timed tasks ready waits = plan_seen tasks ready [] [] waits

-- task i is not done yet, and all that it waits for are
abbrev pub is_free : List ℕ → ℕ → ℕ → Bool
is_free waits done i = not (has done i) && eqb (bit_and (at waits i) done) (at waits i)

-- a task that is free, or that none is
abbrev pub FreeTask : List ℕ → ℕ → ℕ → Option ℕ → Type 0
FreeTask waits done tasks None = (i : ℕ) → i < tasks → is_free waits done i ≡ false
FreeTask waits done tasks (Some i) = (i < tasks) × (is_free waits done i ≡ true)

-- there is a timetable whose ticks are small, and no task waits for itself in the end
pub record Solvable (tasks : ℕ) (ready waits length dropped : List ℕ) : Type 0 where
  pub few : tasks ≤ 64
  pub lines :
      TwoLines (plan_timed tasks ready waits) (at length) (at dropped) (start_time (plan_timed tasks ready waits) (at length) (at dropped))
      (end_time (plan_timed tasks ready waits) (at length) (at dropped))
  pub small : (i : ℕ) → i < tasks → end_time (plan_timed tasks ready waits) (at length) (at dropped) i ≤ 1000000
  pub within : (i j : ℕ) → i < tasks → has (at waits i) j ≡ true → j < tasks
  pub planned : ℕ → ℕ
  pub sooner : (i j : ℕ) → i < tasks → j < tasks → has (at waits i) j ≡ true → planned j < planned i
