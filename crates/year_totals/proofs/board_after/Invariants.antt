use Rattle.year_totals.proofs.TallyLaws.{Seen, Roomy}
use Rattle.year_totals.proofs.board_after.Given as goal

-- `board_after` meets its contract: the tally is that of the figures of the tasks below i.
abbrev pub invariant-loop-i : goal.invariant-loop-i
invariant-loop-i l = Roomy l.tally l.i × Seen l.fn.held l.number l.plan.board l.plan.finish l.judged.end l.i l.tally
