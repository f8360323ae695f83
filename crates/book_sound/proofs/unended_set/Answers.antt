use Rattle.book_view.proofs.Turns.{set_more}
use Rattle.laws.specs.Bits.{set_of}
use native.Mathlib.Omega.{arith}
use mathlib.Core.Path.{◌≡◌, refl}
use Rattle.book_sound.proofs.unended_set.Goals as goal

pub loop-j-init : goal.loop-j-init
unfolding set_of
loop-j-init c = (omega arith, refl)

pub loop-j-preserved : goal.loop-j-preserved
loop-j-preserved c = (omega arith, set_more _ _ (omega arith) refl c.bit_of-set.ensures c.loop-j.invariant.1)

pub returns : goal.returns
returns c =
    let e : c.loop-j.j ≡ c.args.book.now.plan.tasks = omega arith in rw e at c.loop-j.invariant.1
