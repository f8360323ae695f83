-- A plan as a value: its tasks, and when it is accepted, whatever its arrays hold.
use Rattle.std.specs.Prelude.{ℕ, ◌*◌, Bool, cond, ◌&&◌, List, [], eqb, get_or, take, drop, replicate}
use Rattle.laws.specs.Each.{each, rows}
use Rattle.laws.specs.Every.{every}
use Rattle.laws.specs.Lists.{all_of}
use Rattle.laws.specs.Split.{index_of, before}
use Rattle.text_fields.specs.Items.{between}
use Rattle.plan.specs.Answer.{refuse, is_granted}
use Rattle.plan.specs.Task.{Task, task_of, task_ok, edition_ok}
use Rattle.plan.specs.Judged.{tasks_answer}
use Rattle.plan.specs.declared.Answer.{Answer}
use Rattle.plan.specs.declared.Plan.{Plan}

abbrev pub at : List ℕ → ℕ → ℕ
at l i = get_or l i 0

-- the width places of task k
abbrev pub row : ℕ → List ℕ → ℕ → List ℕ
row width l k = take width (drop (width * k) l)

-- items first, 0 after the last
abbrev pub items : List ℕ → List ℕ
items l = before 0 l

-- task k of a plan, from 0
abbrev pub task_at : Plan → ℕ → Task
task_at plan k =
    task_of (at plan.board k) (at plan.ready k) (at plan.begin k) (at plan.finish k)
    (items (row 32 plan.holds k)) (items (row 64 plan.after k))

-- the plan of these parts
abbrev pub plan_with : ℕ → ℕ → ℕ → List ℕ → List ℕ → List ℕ → List ℕ → List ℕ → List ℕ → Plan
plan_with edition boards tasks board ready begin finish holds after = record {
  edition = edition;
  boards = boards;
  tasks = tasks;
  board = board;
  ready = ready;
  begin = begin;
  finish = finish;
  holds = holds;
  after = after;
}

-- the plan of an edition with B boards and these T tasks; nothing is kept past its last task or a list's last item
unfoldable pub plan_of : ℕ → ℕ → ℕ → (ℕ → Task) → Plan
plan_of edition boards tasks task =
    let numbers : (ℕ → ℕ) → List ℕ = λ f. each tasks f (replicate 64 0) in
    plan_with edition boards tasks (numbers (λ k. (task k).board)) (numbers (λ k. (task k).ready)) (numbers (λ k. (task k).begin))
    (numbers (λ k. (task k).finish)) (rows 32 tasks (λ k. (task k).holds) (replicate 2048 0)) (rows 64 tasks (λ k. (task k).after) (replicate 4096 0))

abbrev pub zero_plan : Plan
zero_plan = plan_of 0 0 0 (λ k. task_of 0 0 0 0 [] [])

-- nothing is kept from place n on
unfoldable pub blank_from : ℕ → List ℕ → Bool
blank_from n l = all_of (eqb 0) (drop n l)

-- nothing is kept past a list's last item
abbrev pub is_trimmed : List ℕ → Bool
is_trimmed l = blank_from (index_of 0 l) l

unfoldable pub kept_ok : Plan → ℕ → Bool
kept_ok plan k =
    task_ok plan.boards plan.tasks (task_at plan k)
    && (edition_ok plan.edition (task_at plan k)
    && (is_trimmed (row 32 plan.holds k) && is_trimmed (row 64 plan.after k)))

-- nothing is kept past the last task
abbrev pub past_blank : Plan → Bool
past_blank plan =
    let past = blank_from plan.tasks in
    past plan.board && (past plan.ready && (past plan.begin && (past plan.finish
    && (blank_from (32 * plan.tasks) plan.holds && blank_from (64 * plan.tasks) plan.after))))

-- its numbers and lists keep the ranges and rules
unfoldable pub ranges_ok : Plan → Bool
ranges_ok plan =
    between 1 2 plan.edition
    && (between 1 8 plan.boards && (between 1 64 plan.tasks && (every plan.tasks (kept_ok plan) && past_blank plan)))

-- what a plan handed in as a value is judged by: 9 where its ranges are broken, else by its tasks: one is planned at tick 0, no pair is faulty
unfoldable pub judged_answer : Plan → Answer
judged_answer plan = cond (ranges_ok plan) (tasks_answer plan.tasks (task_at plan)) (refuse 9 0 0)

unfoldable pub is_accepted : Plan → Bool
is_accepted plan = is_granted (judged_answer plan)
