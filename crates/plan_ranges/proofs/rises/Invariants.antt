use mathlib.Core.Path.{◌≡◌}
use lib.ListN.{drop}
use Rattle.laws.specs.Private.Rise.{rises_from}
use Rattle.laws.specs.Split.{before}
use Rattle.plan.specs.Value.{items}
use Rattle.plan_ranges.specs.Private.Kept.{key_of}
use Rattle.plan_ranges.proofs.rises.Given as goal

abbrev pub invariant-loop-x : goal.invariant-loop-x
invariant-loop-x l =
    rises_from (key_of l.listed) l.high l.last (before 0 (drop l.x-index l.list)) ≡ rises_from (key_of l.listed) l.high 0 (items l.list)
