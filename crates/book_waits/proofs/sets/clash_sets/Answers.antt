use native.Mathlib.Omega.{arith}
use mathlib.Core.Path.{◌≡◌, refl}
use Rattle.laws.specs.Each.{each}
use Rattle.book_waits.proofs.SetLaws.{clash-more}
use Rattle.plan.specs.View.{viewed}
use Rattle.book_waits.specs.Private.Arrays.{clash_sets}
use Rattle.book_waits.proofs.sets.clash_sets.Goals as goal

pub loop-i-init : goal.loop-i-init
unfolding each clash_sets
loop-i-init c = (omega arith, refl)

pub clash_set-requires : goal.clash_set-requires
clash_set-requires c =
    let own = c.before.requires.1 c.loop-i.i c.loop-i-test.true in (omega arith, own.0, own.1)

pub loop-i-preserved : goal.loop-i-preserved
loop-i-preserved c =
    (omega arith, clash-more c.args.sets.now (viewed c.args.plan.now) _ c.board_sets-on.ensures c.holders_of-drives.ensures c.loop-i.invariant.1 c.clash_set.ensures)

pub returns : goal.returns
returns c = let e : c.loop-i.i ≡ c.args.plan.now.tasks = omega arith in rw e at c.loop-i.invariant.1
