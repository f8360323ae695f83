use Rattle.book_view.proofs.Turns.{latest-more}
use Rattle.laws.specs.Picked.{latest}
use native.Mathlib.Omega.{arith}
use mathlib.Core.Path.{◌≡◌, refl}
use Rattle.book_sound.proofs.last_end.Goals as goal

pub loop-j-init : goal.loop-j-init
unfolding latest
loop-j-init c = (omega arith, refl)

pub loop-j-preserved : goal.loop-j-preserved
loop-j-preserved c = (omega arith, latest-more _ _ _ c.loop-j.invariant.1 c.later-last.ensures)

pub returns : goal.returns
returns c = let e : c.loop-j.j ≡ c.args.book.now.plan.tasks = omega arith in rw e at c.loop-j.invariant.1
