use Rattle.plan.specs.View.{viewed}
use Rattle.plan_judge.specs.Private.Arrays.{tasks_of}
use Rattle.plan_judge.proofs.PairLaws.{RowsFrom}
use Rattle.plan_judge.proofs.pairs.first_fault.Given as goal

abbrev pub invariant-loop-a : goal.invariant-loop-a
invariant-loop-a l = RowsFrom l.plan.tasks (tasks_of (viewed l.plan)) l.a
