use Prim.Native.Nat.{◌+◌, ◌*◌, ◌≤◌}
use lib.ListN.{length}
use Rattle.desk_answers.proofs.DriveLaws.{Rest}
use Rattle.desk_answers.proofs.drive.put_items.Given as goal

-- `put_items` meets its contract: the first item, then each after its comma.
abbrev pub invariant-loop-task : goal.invariant-loop-task
invariant-loop-task l =
    (l.task-index ≤ length l.others)
    × (l.at + 2 + 11 * length l.items ≤ length l.out)
    × (l.place ≤ l.at + 11 * (l.task-index + 1))
    × Rest l.others l.task-index l.initial.out l.initial.place l.out l.place
