use Prim.Native.Nat.{◌≤◌}
use mathlib.Core.Path.{◌≡◌}
use lib.ListN.{length}
use Rattle.desk_answers.proofs.LineLaws.{Below}
use Rattle.desk_answers.proofs.running.put_running.Given as goal

-- `put_running` meets its contract: the lines of the tasks below the number were written.
abbrev pub invariant-loop-i : goal.invariant-loop-i
invariant-loop-i l = (l.i ≤ l.tasks) × (length l.out ≡ length l.initial.out) × Below l.book l.i l.initial.out l.out l.place l.count
