-- Short names for what single functions say of a plan, where it stands.
use Rattle.std.specs.Prelude.{ℕ, ◌+◌, ◌-◌, ◌≤◌, ◌<◌, ◌≡◌, Bool, true, false, not, ◌&&◌, ◌||◌, List, ltb, eqb}
use Rattle.laws.specs.Lists.{any_of}
use Rattle.plan.specs.Pairs.{is_listed}
use Rattle.plan.specs.Task.{Task}
use Rattle.plan.specs.Value.{at, row, items}
use Rattle.plan.specs.declared.Plan.{Plan}
use Rattle.plan_judge.specs.Tasks.{tasks_in}

-- its tasks, whose ready ticks no pair looks at
abbrev pub tasks_of : Plan → ℕ → Task
tasks_of plan = tasks_in plan.board plan.begin plan.finish plan.holds plan.after

abbrev pub overlaps_in : Plan → ℕ → ℕ → Bool
overlaps_in plan a b = ltb (at plan.begin a) (at plan.finish b) && ltb (at plan.begin b) (at plan.finish a)

abbrev pub meet_in : Plan → ℕ → ℕ → Bool
meet_in plan a b = not (eqb a b) && overlaps_in plan a b

abbrev pub breaks_in : Plan → ℕ → ℕ → Bool
breaks_in plan a b = ltb (at plan.begin a) (at plan.finish b) && is_listed (items (row 64 plan.after a)) (b + 1)

-- the listed task is no task, or its planned finish is past the tick
abbrev pub is_late : List ℕ → ℕ → ℕ → Bool
is_late finish tick number = ltb 64 number || ltb tick (at finish (number - 1))

-- none that task k lists is late for it
abbrev pub row_in_order : Plan → ℕ → Bool
row_in_order plan k = not (any_of (is_late plan.finish (at plan.begin k)) (items (row 64 plan.after k)))

-- where the tasks are in order neither of the two breaks an after
abbrev pub PairInOrder : Plan → Bool → ℕ → ℕ → Type 0
PairInOrder plan ordered a b =
    ordered ≡ true → (breaks_in plan a b ≡ false) × (breaks_in plan b a ≡ false)

-- the tasks from b up to r are passed over: all are in order, and none of these overlaps with a
pub record PassedOver (plan : Plan) (ordered : Bool) (a b r : ℕ) : Type 0 where
  pub onward : b ≤ r
  pub idle : (j : ℕ) → b ≤ j → j < r → (j < plan.tasks) × (ordered ≡ true) × (overlaps_in plan a j ≡ false)
