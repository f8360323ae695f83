use mathlib.Core.Path.{◌≡◌}
use Rattle.school_write.specs.Lines.{are_ticks}
use Rattle.school_write.proofs.are_ticks.Given as goal

abbrev pub invariant-loop-i : goal.invariant-loop-i
invariant-loop-i l = l.all ≡ are_ticks l.i l.finish l.end
