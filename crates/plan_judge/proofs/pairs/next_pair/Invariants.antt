use Rattle.plan.specs.View.{viewed}
use Rattle.plan_judge.specs.Private.Arrays.{PassedOver}
use Rattle.plan_judge.proofs.pairs.next_pair.Given as goal

abbrev pub invariant-loop-i : goal.invariant-loop-i
invariant-loop-i l = PassedOver (viewed l.plan) l.ordered l.a l.b l.i
