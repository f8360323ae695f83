use Rattle.engine_write.proofs.RowLaws.{Below}
use Rattle.engine_write.proofs.put_all.Given as goal

-- The lines of the tasks below i are written.
abbrev pub invariant-loop-i : goal.invariant-loop-i
invariant-loop-i l = Below l.board l.table.start l.table.end l.i l.initial.out l.out l.place
