use Prim.Native.Nat.{◌*◌, ◌≤◌}
use mathlib.Core.Path.{◌≡◌}
use lib.ListN.{length}
use Rattle.plan.specs.Value.{task_at}
use Rattle.plan.specs.View.{viewed}
use Rattle.plan.specs.Write.{task_texts}
use Rattle.plan_write.proofs.measure.tasks_len.Given as goal

abbrev pub invariant-loop-k : goal.invariant-loop-k
invariant-loop-k l =
    (l.k ≤ l.plan.tasks) × (l.n ≤ 2000 * l.k) × (l.n ≡ length (task_texts l.plan.edition (task_at (viewed l.plan)) l.k))
