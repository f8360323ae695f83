use native.Mathlib.Omega.{arith}
use Rattle.plan_write.proofs.RunLaws.{also, wrote-length}
use Rattle.plan_write.proofs.WriteLaws.{texts-turn, task-room, all-written, none_written}
use Rattle.plan_write.proofs.parts.put_tasks.Goals as goal

pub loop-k-init : goal.loop-k-init
loop-k-init c = (omega arith, none_written _ _ _ _)

pub put_task-place-requires : goal.put_task-place-requires
put_task-place-requires c =
    (omega arith, task-room _ _ _ _ c.loop-k-test.true c.requires.1 c.loop-k.invariant.1)

pub loop-k-preserved : goal.loop-k-preserved
loop-k-preserved c =
    (omega arith, rw texts-turn (also c.loop-k.invariant.1 c.put_task-place.ensures))

pub shape_of-out : goal.shape_of-out
shape_of-out c = wrote-length c.loop-k.invariant.1

pub returns : goal.returns
returns c = all-written _ _ _ _ c.loop-k.invariant.0 c.loop-k-test.false c.loop-k.invariant.1
