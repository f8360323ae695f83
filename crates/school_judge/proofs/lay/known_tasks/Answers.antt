use Rattle.std.proofs.Common.{rules}
use mathlib.Core.Bool.{◌&&◌}
use lib.Dec.{eqb}
use Rattle.plan.specs.Value.{at}
use Rattle.school_judge.proofs.lay.known_tasks.Goals as goal

pub returns : goal.returns
returns c =
    c.marked.ensures (λ i. eqb (at c.args.found.now.starts.many i) 1 && eqb (at c.args.found.now.ends.many i) 1) (λ i r l h. search rules)
