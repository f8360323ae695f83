use Rattle.book_view.proofs.Turns.{latest-more, bit-seen}
use Rattle.laws.specs.Picked.{latest}
use native.Mathlib.Omega.{arith}
use mathlib.Core.Path.{◌≡◌, refl}
use Prim.Native.Nat.{min}
use Rattle.book_view.proofs.latest_end.Goals as goal

pub loop-j-init : goal.loop-j-init
unfolding latest
loop-j-init c = refl

pub loop-j-preserved : goal.loop-j-preserved
loop-j-preserved c =
    let seen = bit-seen c.loop-j.j _ (omega arith) c.is_in.ensures in
    latest-more _ _ _ c.loop-j.invariant (rw seen at c.later-last.ensures)

pub returns : goal.returns
returns c =
    let e : c.loop-j.j ≡ min c.args.tasks 64 = omega arith in rw e at c.loop-j.invariant
