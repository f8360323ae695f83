use native.Mathlib.Omega.{arith}
use Rattle.engine_read.proofs.NoteLaws.{planned-none, planned-turn, planned-end}
use Rattle.engine_read.proofs.planned.Goals as goal

pub loop-i-init : goal.loop-i-init
loop-i-init c = planned-none c.args.begin.now c.args.finish.now

pub loop-i-preserved : goal.loop-i-preserved
loop-i-preserved c = planned-turn c.args.begin.now c.args.finish.now _ c.loop-i.invariant c.saturating_sub.ensures

pub returns : goal.returns
returns c = planned-end c.args.begin.now c.args.finish.now (omega arith) (omega (arith, c.loop-i-test.false)) c.loop-i.invariant
