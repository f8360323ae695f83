-- Judging the tasks of a plan whose lines or arrays are faultless.
use Rattle.std.specs.Prelude.{ℕ, Bool, true, cond, eqb}
use Rattle.std.proofs.Math.Option.{get_or}
use Rattle.laws.specs.Every.{any}
use Rattle.laws.specs.Picked.{least}
use Rattle.plan.specs.Answer.{refuse}
use Rattle.plan.specs.Task.{Task}
use Rattle.plan.specs.Pairs.{first_fault}
use Rattle.plan.specs.declared.Answer.{Answer}

-- A plan must have some task planned at tick 0
abbrev pub begins_at_zero : ℕ → (ℕ → Task) → Bool
begins_at_zero tasks task = any tasks (λ k. eqb (task k).begin 0)

-- the least planned start
abbrev pub least_start : ℕ → (ℕ → Task) → ℕ
least_start tasks task = get_or (least tasks (λ k. true) (λ k. (task k).begin)) 0

-- 17, when none is, with the least planned start and 0; then pair by pair 6, 7, 8
unfoldable pub tasks_answer : ℕ → (ℕ → Task) → Answer
tasks_answer tasks task = cond (begins_at_zero tasks task) (first_fault tasks task) (refuse 17 (least_start tasks task) 0)
