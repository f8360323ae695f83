use native.Mathlib.Omega.{arith}
use Rattle.laws.proofs.Gather.{gather-start, gather-stop, gather-out, gather-turn}
use Rattle.plan.specs.Pairs.{is_listed}
use Rattle.book_waits.proofs.ListLaws.{named, its-bit}
use Rattle.book_waits.proofs.listed.listed_set.Goals as goal

pub loop-n-init : goal.loop-n-init
loop-n-init c = gather-start 64 named _

pub returns-then-n-eq0 : goal.returns-then-n-eq0
unfolding is_listed
returns-then-n-eq0 c = gather-stop 64 named _ _ _ c.loop-n.invariant c.loop-n-test.true c.if-n-eq0.true

pub number_bit-set-requires : goal.number_bit-set-requires
number_bit-set-requires c = omega arith

pub loop-n-preserved : goal.loop-n-preserved
loop-n-preserved c =
    let item = c.if-n-eq0.false in
    gather-turn 64 named _ _ _ c.loop-n.invariant c.loop-n-test.true item
    (its-bit _ (omega (arith, item)) c.number_bit-set.ensures)

pub returns : goal.returns
unfolding is_listed
returns c = gather-out 64 named _ _ _ c.loop-n.invariant c.loop-n-test.false
