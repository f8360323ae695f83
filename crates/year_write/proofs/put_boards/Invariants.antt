use Rattle.year_write.proofs.LineLaws.{Below}
use Rattle.year_write.proofs.put_boards.Given as goal

-- `put_boards` meets its contract: the lines of the boards below b were written.
abbrev pub invariant-loop-b : goal.invariant-loop-b
invariant-loop-b l = Below l.totals l.b l.initial.out l.at l.out l.place
