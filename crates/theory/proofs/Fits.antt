-- Which lengths and drops a timetable takes.
use mathlib.Core.Path.{◌≡◌}
use mathlib.Core.Logic.{◌≢◌}
use mathlib.Core.Bool.{true}
use Prim.Native.Nat.{ℕ, ◌-◌, ◌≤◌, ◌<◌}
use Rattle.theory.specs.Plan.{Plan}

-- a length is 1 up to the planned length, and a dropped task waits for somebody
pub record Fits (plan : Plan) (length dropped : ℕ → ℕ) : Type 0 where
  pub within : (i : ℕ) → i < plan.tasks → dropped i ≢ 1 → (1 ≤ length i) × (length i ≤ plan.finish i - plan.begin i)
  pub waits : (i : ℕ) → i < plan.tasks → dropped i ≡ 1 → (j : ℕ) × (j < plan.tasks) × (plan.waits i j ≡ true)
