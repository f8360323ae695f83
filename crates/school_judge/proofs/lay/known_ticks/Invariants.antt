use mathlib.Core.Path.{◌≡◌}
use Rattle.school_judge.specs.Private.Laid.{tick_in}
use Rattle.book_view.specs.View.{laid}
use Rattle.school_judge.proofs.lay.known_ticks.Given as goal

abbrev pub invariant-loop-i : goal.invariant-loop-i
invariant-loop-i l = l.ticks ≡ laid l.i (tick_in l.known l.noted)
