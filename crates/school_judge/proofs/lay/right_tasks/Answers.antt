use Rattle.std.proofs.Common.{rules}
use mathlib.Core.Bool.{◌&&◌}
use lib.Dec.{eqb}
use Rattle.plan.specs.Value.{at}
use Rattle.school_judge.proofs.lay.right_tasks.Goals as goal

pub returns : goal.returns
returns c =
    c.marked.ensures
    (λ i. eqb (at c.args.known.now i) 1 && (eqb (at c.args.found.now.starts.board i) (at c.args.board.now i) && eqb (at c.args.found.now.ends.board i) (at c.args.board.now i)))
    (λ i r l h. search rules)
