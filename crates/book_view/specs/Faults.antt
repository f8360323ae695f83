-- The refusal of the lowest task of which a test holds.
use Rattle.std.specs.Prelude.{ℕ, Bool, cond, eqb}
use Rattle.theory.specs.Times.{lowest}
use Rattle.plan.specs.Answer.{refuse, granted}
use Rattle.plan.specs.declared.Answer.{Answer}

unfoldable pub task_fault : ℕ → ℕ → (ℕ → Bool) → Answer
task_fault code tasks test = cond (eqb (lowest tasks test) 0) granted (refuse code (lowest tasks test) 0)
