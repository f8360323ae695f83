use Prim.Native.Nat.{◌≤◌}
use Rattle.plan.specs.Value.{task_at}
use Rattle.plan.specs.View.{viewed}
use Rattle.plan.specs.Write.{task_texts}
use Rattle.plan_write.specs.Private.WriteParts.{Wrote}
use Rattle.plan_write.proofs.parts.put_tasks.Given as goal

abbrev pub invariant-loop-k : goal.invariant-loop-k
invariant-loop-k l =
    (l.k ≤ l.plan.tasks) × Wrote l.initial.out l.at (task_texts l.plan.edition (task_at (viewed l.plan)) l.k) l.out l.place
