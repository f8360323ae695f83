use Prim.Native.Nat.{◌≤◌}
use Rattle.plan_judge.proofs.StartLaws.{LeastTo}
use Rattle.plan_judge.proofs.tasks.least_start.Given as goal

abbrev pub invariant-loop-k : goal.invariant-loop-k
invariant-loop-k l = (l.k ≤ l.tasks) × LeastTo l.begin l.k l.least
