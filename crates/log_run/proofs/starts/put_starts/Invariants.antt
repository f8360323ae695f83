use Rattle.log_run.proofs.StartLaws.{Below}
use Rattle.log_run.proofs.starts.put_starts.Given as goal

abbrev pub invariant-loop-i : goal.invariant-loop-i
invariant-loop-i l = Below l.old l.book l.i l.initial.out l.at l.out l.place
