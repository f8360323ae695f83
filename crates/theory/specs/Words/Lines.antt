-- Words of the promises: what a timetable is.
use Rattle.std.specs.Prelude.{◌≡◌, ℕ, ◌<◌}
use Rattle.theory.specs.Plan.{Plan}
use Rattle.theory.specs.Times.{start_from, end_from}

-- each task's start from the ends of those it waits for, its end from its start
pub record TwoLines (plan : Plan) (length dropped start end : ℕ → ℕ) : Type 0 where
  pub starts : (i : ℕ) → i < plan.tasks → start i ≡ start_from plan dropped end i
  pub ends : (i : ℕ) → i < plan.tasks → end i ≡ end_from length dropped start i
