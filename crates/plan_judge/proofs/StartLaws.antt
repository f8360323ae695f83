-- The least planned start, task by task, and what it says of the tasks.
use Prim.Native.Nat.{ℕ, ◌+◌, ◌<◌, min}
use mathlib.Core.Path.{◌≡◌, refl, sym, ap, ◌∙◌}
use mathlib.Core.Logic.{◌≢◌}
use mathlib.Core.Bool.{true}
use mathlib.Core.List.{List}
use mathlib.Core.Option.{some}
use native.Mathlib.Numerals.{add-one}
use Rattle.laws.specs.Picked.{least}
use Rattle.plan.specs.Answer.{refuse}
use Rattle.plan.specs.Pairs.{first_fault}
use Rattle.plan.specs.Judged.{tasks_answer}
use Rattle.plan.specs.Value.{at}
use Rattle.plan.specs.declared.Plan.{Plan}
use Rattle.plan.specs.declared.Answer.{Answer}
use Rattle.plan.proofs.Judged.{start-zero, start-late, tasks-late, tasks-pairs}
use Rattle.plan_judge.specs.Private.Arrays.{tasks_of}
use Rattle.plan_judge.specs.Private.Starts.{least_in}

-- v is the least of the first k
abbrev pub LeastTo : List ℕ → ℕ → ℕ → Type 0
LeastTo begin k v = least k (λ j. true) (at begin) ≡ some v

pub least_first : (begin : List ℕ) → LeastTo begin 1 (at begin 0)
unfolding least
least_first begin = refl

pub least-next : (begin : List ℕ) (k v : ℕ) {next : ℕ} → LeastTo begin k v → next ≡ min v (at begin k) → LeastTo begin (k + 1) next
unfolding least
least-next begin k v h e = rw (add-one, h, e)

pub least-out : (begin : List ℕ) (n k v : ℕ) → LeastTo begin k v → k ≡ n → v ≡ least_in begin n
least-out begin n k v h e = rw (sym e, h)

module _ (plan : Plan) {first : ℕ} (f : first ≡ least_in plan.begin plan.tasks) where
  -- 17 where the least planned start is not 0
  pub answered-late : first ≢ 0 → refuse 17 first 0 ≡ tasks_answer plan.tasks (tasks_of plan)
  answered-late n =
      ap (λ (x : ℕ). refuse 17 x 0) f ∙ sym (tasks-late plan.tasks (tasks_of plan) (start-late plan.tasks (tasks_of plan) (λ z. n (f ∙ z))))

  -- else the first faulty pair
  pub answered-pairs :
      0 < plan.tasks → first ≡ 0 → {r : Answer} → r ≡ first_fault plan.tasks (tasks_of plan)
      → r ≡ tasks_answer plan.tasks (tasks_of plan)
  answered-pairs some-task z e =
      e ∙ sym (tasks-pairs plan.tasks (tasks_of plan) (start-zero plan.tasks (tasks_of plan) some-task (sym f ∙ z)))
