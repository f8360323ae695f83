use Rattle.book_view.proofs.Laid.{laid-first, laid_more}
use native.Mathlib.Omega.{arith}
use mathlib.Core.Path.{◌≡◌}
use Rattle.ask_exact.proofs.ends_at_latest.Goals as goal

pub loop-j-init : goal.loop-j-init
loop-j-init c = (omega arith, laid-first _)

pub loop-j-preserved : goal.loop-j-preserved
loop-j-preserved c =
    (omega arith, laid_more _ _ c.loop-j.invariant.1 c.end_at_latest.ensures)

pub returns : goal.returns
returns c =
    let e : c.loop-j.j ≡ c.args.tasks = omega arith in rw e at c.loop-j.invariant.1
