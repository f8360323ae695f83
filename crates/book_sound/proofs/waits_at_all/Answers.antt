use Rattle.book_view.proofs.Turns.{any-more, bit-seen}
use Rattle.laws.specs.Every.{any}
use native.Mathlib.Omega.{arith}
use mathlib.Core.Path.{◌≡◌, refl}
use Rattle.book_sound.proofs.waits_at_all.Goals as goal

pub loop-j-init : goal.loop-j-init
unfolding any
loop-j-init c = (omega arith, refl)

pub loop-j-preserved : goal.loop-j-preserved
loop-j-preserved c =
    let seen = bit-seen c.loop-j.j _ (omega arith) c.is_in-some.ensures in
    (omega arith, rw seen (any-more _ _ c.loop-j.invariant.1))

pub returns : goal.returns
returns c =
    let e : c.loop-j.j ≡ c.args.tasks = omega arith in rw e at c.loop-j.invariant.1
