use native.Mathlib.Omega.{arith}
use mathlib.Core.Path.{◌≡◌, refl}
use lib.Dec.{leb}
use Rattle.laws.specs.Each.{each}
use Rattle.laws.specs.Private.Noted.{noted}
use Rattle.plan.specs.Value.{at}
use Rattle.book_waits.proofs.SetLaws.{await-more}
use Rattle.book_waits.proofs.sets.await_task.Goals as goal

pub loop-i-init : goal.loop-i-init
unfolding each
loop-i-init c = (omega arith, refl)

pub loop-i-preserved : goal.loop-i-preserved
loop-i-preserved c =
    let a = c.args in (
      omega arith,
      await-more (λ k. leb a.tick (at a.begin.now k)) _ _ a.sets.now c.requires.0 c.loop-i.invariant.1 c.bit_of.ensures,
    )

pub returns : goal.returns
unfolding noted
returns c = let e : c.loop-i.i ≡ 64 = omega arith in rw e at c.loop-i.invariant.1
