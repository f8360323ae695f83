-- Drives in range, and that those of a task and of a plan that keep the rules are.
use Prim.Native.Nat.{ℕ, ◌-◌, ◌≤◌, ◌<◌}
use native.Mathlib.Omega.{arith}
use lib.Dec.{leb}
use borrow.Author.Tests.{leb-true}
use mathlib.Core.Path.{◌≡◌}
use mathlib.Core.Bool.{true, ◌&&◌}
use Rattle.laws.proofs.Cases.{and_l, and_r}
use Rattle.laws.specs.Lists.{all_of, rising}
use Rattle.text_fields.specs.Items.{drive_of, holds_ok, after_ok}
use Rattle.plan.specs.Task.{Task, numbers_ok, task_ok}
use Rattle.plan.specs.Value.{task_at, ranges_ok}
use Rattle.plan.specs.Private.Drives.{is_drive, RowsInRange}
use Rattle.plan.specs.declared.Plan.{Plan}
use Rattle.plan.proofs.PlanTasks.{ranges-kept, task-kept}

-- a drive that is one of the 32
pub drive-from : (x : ℕ) → is_drive x ≡ true → 1 ≤ drive_of x
drive-from x r = leb-true 1 (drive_of x) (and_l (leb 1 (drive_of x)) (leb (drive_of x) 32) r)

pub drive-to : (x : ℕ) → is_drive x ≡ true → drive_of x ≤ 32
drive-to x r = leb-true (drive_of x) 32 (and_r (leb 1 (drive_of x)) (leb (drive_of x) 32) r)

pub drive-shift : (x : ℕ) → is_drive x ≡ true → (1 ≤ drive_of x) × (drive_of x - 1 < 32)
drive-shift x r = (drive-from x r, omega (arith, drive-from x r, drive-to x r))

-- the drives of a task that keeps the rules are
pub task-in-range : (boards tasks : ℕ) (task : Task) → task_ok boards tasks task ≡ true → all_of is_drive task.holds ≡ true
unfolding holds_ok
task-in-range boards tasks task h =
    let lists = and_r (numbers_ok boards task) (holds_ok task.holds && after_ok tasks task.after) h in
    let holds = and_l (holds_ok task.holds) (after_ok tasks task.after) lists in
    and_l (all_of is_drive task.holds) (rising drive_of task.holds) holds

pub plan-in-range : (plan : Plan) → ranges_ok plan ≡ true → RowsInRange plan.holds plan.tasks
plan-in-range plan ranges =
    let r = ranges-kept plan ranges in
    record {
      few = r.tasks.1;
      range = λ k l. task-in-range plan.boards plan.tasks (task_at plan k) (task-kept plan k (r.kept k l)).task;
    }
