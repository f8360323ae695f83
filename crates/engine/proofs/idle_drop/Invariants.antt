use Rattle.theory.proofs.Lowest.{lowest_from}
use Rattle.theory.specs.Times.{lowest}
use Rattle.plan.specs.Value.{at}
use mathlib.Core.Bool.{◌&&◌}
use mathlib.Core.Path.{◌≡◌}
use lib.Dec.{eqb}
use Rattle.engine.proofs.idle_drop.Given as goal

abbrev pub invariant-loop-i : goal.invariant-loop-i
invariant-loop-i l =
    lowest_from l.i l.tasks (λ j. eqb (at l.dropped j) 1 && eqb (at l.waits j) 0) ≡ lowest l.tasks (λ j. eqb (at l.dropped j) 1 && eqb (at l.waits j) 0)
