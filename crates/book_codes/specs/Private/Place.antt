-- The place of a task that a report or a drop names.
use Rattle.std.specs.Prelude.{ℕ, ◌-◌, cond, ◌||◌, eqb, leb, Ok, Err}
use Rattle.std.specs.declared.result.Result.{Result}
use Rattle.plan.specs.declared.Refusal.{Refusal}
use Rattle.plan.specs.declared.Refusal.TheVariants.{NoTask}

-- the place of a task among T, from 0; no task has the number 0
abbrev pub place_in : ℕ → ℕ → Result ℕ Refusal
place_in tasks task = cond (eqb task 0 || leb tasks (task - 1)) (Err NoTask) (Ok (task - 1))
