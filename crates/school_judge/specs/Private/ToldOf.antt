-- The refusal of a task as a result.
use Rattle.std.specs.Prelude.{ℕ, Option, None, Some, Result, Ok, Err}
use Rattle.plan.specs.Answer.{refuse}
use Rattle.plan.specs.declared.Answer.{Answer}

-- the refusal of a task, where there is one
abbrev pub told_of : ℕ → Option ℕ → Result (Unit {0}) Answer
told_of code None = Ok tt
told_of code (Some task) = Err (refuse code task 0)
