use Prim.Native.Nat.{◌-◌}
use Rattle.plan.specs.View.{viewed}
use Rattle.plan_judge.specs.Private.Arrays.{tasks_of}
use Rattle.plan_judge.proofs.PairLaws.{PairsFrom}
use Rattle.plan_judge.proofs.pairs.row_fault.Given as goal

abbrev pub invariant-loop-b : goal.invariant-loop-b
invariant-loop-b l = PairsFrom l.plan.tasks (tasks_of (viewed l.plan)) l.a l.b

abbrev pub decreases-loop-b : goal.decreases-loop-b
decreases-loop-b l = l.plan.tasks - l.b
