use Rattle.engine.proofs.FillLaws.{NoneTo}
use Rattle.engine.proofs.fill.free_task.Given as goal

abbrev pub invariant-loop-i : goal.invariant-loop-i
invariant-loop-i l = NoneTo l.waits l.done l.tasks l.i
