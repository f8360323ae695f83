-- What tasks in arrays are judged by, without the ranges of the plan that they are of.
use Rattle.std.specs.Prelude.{ℕ, Bool, cond, ◌&&◌, ◌||◌, List, eqb}
use Rattle.laws.specs.Lists.{all_of}
use Rattle.text_fields.specs.Items.{between, drive_of}
use Rattle.plan.specs.Answer.{refuse}
use Rattle.plan.specs.Judged.{tasks_answer}
use Rattle.plan.specs.Task.{Task, task_of}
use Rattle.plan.specs.Value.{at, row, items}
use Rattle.plan.specs.declared.Answer.{Answer}
use Rattle.plan.specs.declared.Plan.{Plan}

-- the tasks that arrays hold, whose ready ticks no pair looks at
abbrev pub tasks_in : List ℕ → List ℕ → List ℕ → List ℕ → List ℕ → ℕ → Task
tasks_in board begin finish holds after k =
    task_of (at board k) 0 (at begin k) (at finish k) (items (row 32 holds k)) (items (row 64 after k))

-- a place of a list of holds has nothing or a hold of one of the 32 drives
abbrev pub is_place : ℕ → Bool
is_place h = eqb h 0 || between 1 32 (drive_of h)

-- 9 where there is no task, or more than 64, or a hold of another drive
unfoldable pub tasks_judged : ℕ → List ℕ → List ℕ → List ℕ → List ℕ → List ℕ → Answer
tasks_judged tasks board begin finish holds after =
    cond (between 1 64 tasks && all_of is_place holds) (tasks_answer tasks (tasks_in board begin finish holds after)) (refuse 9 0 0)

-- the tasks of a plan, whose ranges are not looked at
abbrev pub judged_alone : Plan → Answer
judged_alone plan = tasks_judged plan.tasks plan.board plan.begin plan.finish plan.holds plan.after
