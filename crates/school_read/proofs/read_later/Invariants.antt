use lib.ListN.{length}
use Rattle.school_read.proofs.WalkLaws.{Walk}
use Rattle.school_read.proofs.read_later.Given as goal

abbrev pub invariant-loop-rest : goal.invariant-loop-rest
invariant-loop-rest l = Walk l.boards l.tasks l.later l.found l.lines l.rest

abbrev pub decreases-loop-rest : goal.decreases-loop-rest
decreases-loop-rest l = length l.rest
