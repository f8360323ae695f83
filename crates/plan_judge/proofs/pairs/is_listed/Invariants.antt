use mathlib.Core.Path.{◌≡◌}
use lib.ListN.{drop}
use Rattle.laws.specs.Lists.{any_of}
use Rattle.laws.specs.Split.{before}
use Rattle.plan.specs.Value.{items}
use lib.Dec.{eqb}
use Rattle.plan.specs.Pairs.{is_listed}
use Rattle.plan_judge.proofs.pairs.is_listed.Given as goal

abbrev pub invariant-loop-n : goal.invariant-loop-n
invariant-loop-n l = any_of (eqb l.number) (before 0 (drop l.n-index l.list)) ≡ is_listed (items l.list) l.number
