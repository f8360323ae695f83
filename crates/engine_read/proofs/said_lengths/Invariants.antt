use lib.ListN.{length}
use Rattle.engine_read.proofs.WalkLaws.{Walk}
use Rattle.engine_read.proofs.said_lengths.Given as goal

-- What is kept is what the lines so far say, and the rest goes on from there.
abbrev pub invariant-loop-rest : goal.invariant-loop-rest
invariant-loop-rest l = Walk l.tasks l.begin l.finish l.initial.line l.text l.noted l.line l.rest

abbrev pub decreases-loop-rest : goal.decreases-loop-rest
decreases-loop-rest l = length l.rest
