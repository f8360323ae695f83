use Rattle.school_write.proofs.LineLaws.{Below}
use Rattle.school_write.proofs.figures.put_figures.Given as goal

abbrev pub invariant-loop-i : goal.invariant-loop-i
invariant-loop-i l = Below l.finish l.judged.known l.judged.end l.i l.initial.out l.out l.place
