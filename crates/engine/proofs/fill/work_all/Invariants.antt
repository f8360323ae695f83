use Rattle.engine.proofs.FillLaws.{Timed, undone}
use Rattle.laws.specs.Private.Count.{count}
use Rattle.engine.proofs.fill.work_all.Given as goal

abbrev pub invariant-loop-i : goal.invariant-loop-i
invariant-loop-i l = Timed l.tasks l.ready l.waits l.given.length l.given.dropped l.done l.start l.end

abbrev pub decreases-loop-i : goal.decreases-loop-i
decreases-loop-i l = count l.tasks (undone l.done)
