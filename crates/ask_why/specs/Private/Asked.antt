-- What the walk asks of a task.
use Rattle.std.specs.Prelude.{ℕ, ◌-◌, ◌||◌, cond, List, eqb, ltb, Option, Some, None, Result, Ok, Err}
use Rattle.theory.specs.Plan as theory-plan
use Rattle.theory.specs.Book as theory-book
use Rattle.theory.specs.Chain.{cause, stops_at}
use Rattle.plan.specs.Value.{at}
use Rattle.plan.specs.declared.Refusal.{Refusal}
use Rattle.plan.specs.declared.Refusal.TheVariants.{NoTask, NotRunning}
use Rattle.book_view.specs.View.{book_seen}
use Rattle.book.specs.declared.Book.{Book}
use Rattle.ask_why.specs.Lent.{plan_before}

-- the place of a started task; 10 for a task not in 1 to T, 11 for a waiting one
abbrev pub asked_of : ℕ → List ℕ → ℕ → Result ℕ Refusal
asked_of tasks mark task =
    cond (eqb task 0 || ltb tasks task) (Err NoTask) (cond (eqb (at mark (task - 1)) 0) (Err NotRunning) (Ok (task - 1)))

-- a number below n
abbrev pub below : ℕ → ℕ → Option ℕ
below n k = cond (ltb k n) (Some k) None

-- the cause of a task, unless its chain stops there
abbrev pub cause_in : theory-plan.Plan → theory-book.Book → ℕ → Option ℕ
cause_in plan book i = cond (stops_at plan book i) None (Some (cause plan book i))
