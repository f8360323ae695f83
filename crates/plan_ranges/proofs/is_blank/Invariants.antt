use mathlib.Core.Bool.{◌&&◌}
use mathlib.Core.Path.{◌≡◌}
use lib.ListN.{drop}
use Rattle.laws.specs.Lists.{all_of}
use Rattle.plan_ranges.proofs.is_blank.Given as goal

-- what is gathered so far and the rest make the whole
abbrev pub invariant-loop-i : goal.invariant-loop-i
invariant-loop-i g l =
    (l.all && all_of (g.T.PartialEq.eq l.nothing) (drop l.i l.list)) ≡ all_of (g.T.PartialEq.eq l.nothing) (drop l.n l.list)
