use native.Mathlib.Omega.{arith}
use mathlib.Core.Path.{◌≡◌, refl}
use Rattle.book_view.proofs.Turns.{set_more}
use Rattle.laws.specs.Bits.{set_of}
use Rattle.ask_sheet.proofs.running_set.Goals as goal

pub loop-k-init : goal.loop-k-init
unfolding set_of
loop-k-init c = (omega arith, refl)

pub loop-k-preserved : goal.loop-k-preserved
loop-k-preserved c = (omega arith, set_more _ _ (omega arith) refl c.bit_of-set.ensures c.loop-k.invariant.1)

pub returns : goal.returns
returns c = let e : c.loop-k.k ≡ c.args.n = omega arith in rw e at c.loop-k.invariant.1
