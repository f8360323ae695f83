-- The refusals of lengths and drops.
use Rattle.std.specs.Prelude.{ℕ, Bool}
use Rattle.plan.specs.Answer.{or_else}
use Rattle.plan.specs.declared.Answer.{Answer}
use Rattle.book_view.specs.Faults.{task_fault}

-- 22, the lowest task whose length is bad; then 19, the lowest dropped one that is idle
unfoldable pub lengths_answer : ℕ → (ℕ → Bool) → (ℕ → Bool) → Answer
lengths_answer tasks bad idle = or_else (task_fault 22 tasks bad) (task_fault 19 tasks idle)
