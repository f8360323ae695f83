use native.Mathlib.Omega.{arith}
use mathlib.Core.Bool.{true, and-true}
use mathlib.Core.Path.{◌≡◌, refl, sym}
use Rattle.laws.specs.Bits.{set_of}
use Rattle.laws.specs.Each.{each}
use Rattle.laws.proofs.Noted.{sets-length, sets_more, note-one}
use Rattle.book_waits.proofs.clash.board_sets.Goals as goal

pub loop-k-init : goal.loop-k-init
unfolding each set_of
loop-k-init c = (omega arith, refl)

pub overflow_sub-b : goal.overflow_sub-b
overflow_sub-b c = let own = c.requires.1 c.loop-k.k c.loop-k-test.true in omega (arith, own.0)

pub overflow_cast-b : goal.overflow_cast-b
overflow_cast-b c = let own = c.requires.1 c.loop-k.k c.loop-k-test.true in omega (arith, own.1)

pub offset_bounds-sets-b : goal.offset_bounds-sets-b
offset_bounds-sets-b c = let own = c.requires.1 c.loop-k.k c.loop-k-test.true in omega (arith, own.1)

pub bounds-sets-b : goal.bounds-sets-b
bounds-sets-b c = let own = c.requires.1 c.loop-k.k c.loop-k-test.true in omega (arith, own.0, own.1)

pub offset_bounds-sets-b-in-loop-k : goal.offset_bounds-sets-b-in-loop-k
offset_bounds-sets-b-in-loop-k c = let own = c.requires.1 c.loop-k.k c.loop-k-test.true in omega (arith, own.1)

pub bounds-sets-b-in-loop-k : goal.bounds-sets-b-in-loop-k
bounds-sets-b-in-loop-k c = let own = c.requires.1 c.loop-k.k c.loop-k-test.true in omega (arith, own.0, own.1)

pub loop-k-preserved : goal.loop-k-preserved
loop-k-preserved c =
    let own = c.requires.1 c.loop-k.k c.loop-k-test.true in
    let inv = c.loop-k.invariant in (
      omega arith,
      sets_more 8 _ _ inv.1
          (note-one 8 _ true _ (λ d. sym (and-true _)) _ _ own.0 (omega (arith, own.0, own.1)) (sets-length 8 _ _ inv.1) (omega arith) c.bit_of.ensures),
    )

pub returns : goal.returns
returns c = let e : c.loop-k.k ≡ c.args.plan.now.tasks = omega arith in rw e at c.loop-k.invariant.1
