use lib.ListN.{length}
use Rattle.log_run.proofs.EndsLaws.{Walk}
use Rattle.log_run.proofs.ends.put_ends.Given as goal

abbrev pub invariant-loop-rest : goal.invariant-loop-rest
invariant-loop-rest l = Walk l.initial.out l.at l.fn.book l.initial.line l.ends l.out l.told.book l.place l.line l.rest

abbrev pub decreases-loop-rest : goal.decreases-loop-rest
decreases-loop-rest l = length l.rest
