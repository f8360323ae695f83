use Rattle.year_rules.proofs.AddedLaws.{figures_in}
use Rattle.year_totals.proofs.AddLaws.{Filled}
use Rattle.year_totals.proofs.with_accepted.Given as goal

-- `with_accepted` meets its contract: the boards below b are done.
abbrev pub invariant-loop-b : goal.invariant-loop-b
invariant-loop-b l =
    Filled l.totals (figures_in l.plan l.judged) l.b l.ended l.sum l.greatest l.least
