use native.Mathlib.Omega.{arith}
use Rattle.school_write.proofs.LineLaws.{ticks-none, ticks-turn, ticks-out}
use Rattle.school_write.proofs.are_ticks.Goals as goal

pub loop-i-init : goal.loop-i-init
loop-i-init c = ticks-none c.args.finish.now c.args.end.now

pub loop-i-preserved : goal.loop-i-preserved
loop-i-preserved c = ticks-turn c.loop-i.i c.args.finish.now c.args.end.now c.loop-i.invariant

pub returns : goal.returns
returns c = ticks-out c.args.tasks c.loop-i.i c.args.finish.now c.args.end.now c.loop-i.invariant (omega arith) (omega arith)
