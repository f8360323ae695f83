use native.Mathlib.Omega.{arith}
use Rattle.plan_judge.proofs.StartLaws.{least_first, least-next, least-out}
use Rattle.plan_judge.proofs.tasks.least_start.Goals as goal

pub loop-k-init : goal.loop-k-init
loop-k-init c = (omega arith, least_first c.args.begin.now)

pub loop-k-preserved : goal.loop-k-preserved
loop-k-preserved c = (omega arith, least-next c.args.begin.now _ _ c.loop-k.invariant.1 c.min-least.ensures)

pub returns : goal.returns
returns c =
    least-out c.args.begin.now _ _ _ c.loop-k.invariant.1 (omega (arith, c.loop-k.invariant.0, c.loop-k-test.false))
