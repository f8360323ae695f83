use mathlib.Core.Path.{◌≡◌}
use lib.ListN.{drop}
use Rattle.laws.specs.Lists.{any_of}
use Rattle.laws.specs.Split.{before}
use Rattle.plan.specs.Value.{items}
use Rattle.plan_judge.specs.Private.Arrays.{is_late}
use Rattle.plan_judge.proofs.order.lists_late.Given as goal

abbrev pub invariant-loop-n : goal.invariant-loop-n
invariant-loop-n l =
    any_of (is_late l.finish l.tick) (before 0 (drop l.n-index l.list)) ≡ any_of (is_late l.finish l.tick) (items l.list)
