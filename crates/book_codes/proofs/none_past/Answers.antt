use Rattle.book_view.proofs.Turns.{every-implies}
use Rattle.plan.specs.Value.{at}
use Rattle.theory.specs.Report.{none_past}
use Rattle.laws.specs.Every.{every}
use lib.Dec.{leb, eqb}
use native.Mathlib.Omega.{arith}
use mathlib.Core.Path.{◌≡◌, refl}
use Rattle.book_codes.proofs.none_past.Goals as goal

pub loop-j-init : goal.loop-j-init
unfolding every
loop-j-init c = refl

pub loop-j-preserved : goal.loop-j-preserved
loop-j-preserved c = every-implies _ _ (eqb (at c.args.book.now.mark.now c.loop-j.j) 1) (leb c.from.result c.limit_of-limit.result) (rw (c.from.ensures, c.limit_of-limit.ensures)) c.loop-j.invariant

pub returns : goal.returns
unfolding none_past
returns c = let e : c.loop-j.j ≡ c.args.n = omega arith in rw e at c.loop-j.invariant
