-- A plan as a value: where its ranges are kept its drives are bits, and its tasks are judged without the ready ticks.
use Prim.Native.Nat.{◌<◌}
use mathlib.Core.Path.{◌≡◌, refl, sym, ap, ◌∙◌}
use mathlib.Core.Bool.{Bool, true, false}
use Rattle.plan.specs.Answer.{refuse, is_granted}
use Rattle.plan.specs.Pairs.{pair_code, pairs_fault, first_fault}
use Rattle.plan.specs.Judged.{tasks_answer}
use Rattle.plan.specs.Value.{ranges_ok, judged_answer, is_accepted, task_at}
use Rattle.plan.specs.declared.Answer.{Answer}
use Rattle.plan.specs.declared.Plan.{Plan}
use Rattle.plan.proofs.PlanTasks.{ranges-kept}
use Rattle.plan.proofs.Drives.{plan-in-range}
use Rattle.plan.specs.Private.Drives.{RowsInRange}
use Rattle.plan_judge.specs.Private.Arrays.{tasks_of}

-- the pairs are judged without the ready ticks
abbrev pub judged_in : Plan → Answer
judged_in plan =
    tasks_answer plan.tasks (tasks_of plan)

pub judged-is : (plan : Plan) → judged_in plan ≡ tasks_answer plan.tasks (task_at plan)
unfolding tasks_answer first_fault pairs_fault pair_code
judged-is plan = refl

module _ (plan : Plan) {kept : Bool} (k : kept ≡ ranges_ok plan) where
  pub judged-nine : kept ≡ false → refuse 9 0 0 ≡ judged_answer plan
  unfolding judged_answer
  judged-nine h = rw (sym k ∙ h)

  module _ (yes : kept ≡ true) where
    ranges : ranges_ok plan ≡ true
    ranges = sym k ∙ yes

    -- there is a task, and the drives of what is kept are in range
    pub kept-in-range : (0 < plan.tasks) × RowsInRange plan.holds plan.tasks
    kept-in-range = ((ranges-kept plan ranges).tasks.0, plan-in-range plan ranges)

    pub judged-tasks : {fault : Answer} → fault ≡ judged_in plan → fault ≡ judged_answer plan
    unfolding judged_answer
    judged-tasks e = e ∙ judged-is plan ∙ rw ranges

  -- and accepted where no number is said
  pub not-kept : kept ≡ false → false ≡ is_accepted plan
  unfolding is_accepted
  not-kept h = ap is_granted (judged-nine h)

  pub accepted-by : kept ≡ true → {said : Answer} → said ≡ judged_in plan → is_granted said ≡ is_accepted plan
  unfolding is_accepted
  accepted-by passed e = ap is_granted (judged-tasks passed e)
