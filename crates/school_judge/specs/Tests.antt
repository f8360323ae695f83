-- The tests of a log by lent arrays.
use Rattle.std.specs.Prelude.{ℕ, Bool, not, ◌&&◌, ◌||◌, List, ltb, eqb}
use Rattle.laws.specs.Bits.{has}
use Rattle.plan.specs.Answer.{or_else}
use Rattle.plan.specs.Value.{at}
use Rattle.plan.specs.declared.Answer.{Answer}
use Rattle.book_view.specs.Faults.{task_fault}
use Rattle.school.specs.Tests.{against_fault}

-- a task that is not marked right
abbrev pub is_amiss : List ℕ → ℕ → Bool
is_amiss right i = not (eqb (at right i) 1)

-- b waits for a, and starts before a has ended
abbrev pub is_sooner_by : List ℕ → (ℕ → ℕ) → (ℕ → ℕ) → ℕ → ℕ → Bool
is_sooner_by waits start end b a = has (at waits b) a && ltb (start b) (end a)

abbrev pub is_against_by : List ℕ → (ℕ → ℕ) → (ℕ → ℕ) → ℕ → ℕ → Bool
is_against_by waits start end a b = is_sooner_by waits start end a b || is_sooner_by waits start end b a

-- 24 to 27 by their tests, code by code over all tasks
unfoldable pub tests_answer : ℕ → (ℕ → Bool) → (ℕ → Bool) → (ℕ → ℕ → Bool) → (ℕ → Bool) → Answer
tests_answer tasks wrong mislong against untimely =
    or_else (task_fault 24 tasks wrong)
    (or_else (task_fault 25 tasks mislong) (or_else (against_fault tasks against) (task_fault 27 tasks untimely)))
