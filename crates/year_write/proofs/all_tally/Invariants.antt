use Rattle.year_write.proofs.AllLaws.{Sofar}
use Rattle.year_write.proofs.all_tally.Given as goal

-- `all_tally` meets its contract: the boards below b are added up.
abbrev pub invariant-loop-b : goal.invariant-loop-b
invariant-loop-b l = Sofar l.totals l.b l.all.ended l.all.sum l.all.greatest l.all.least
