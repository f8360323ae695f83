use mathlib.Core.Path.{refl}
use Rattle.plan.specs.Pairs.{pairs_fault, first_fault}
use Rattle.plan_judge.proofs.PairLaws.{row-passed, row_found, none_found}
use Rattle.plan_judge.proofs.pairs.first_fault.Goals as goal

pub loop-a-init : goal.loop-a-init
unfolding first_fault pairs_fault
loop-a-init c = refl

pub returns-in-Some : goal.returns-in-Some
returns-in-Some c = row_found _ _ _ c.loop-a.invariant c.loop-a-test.true c.in-Some.ensures

pub loop-a-preserved : goal.loop-a-preserved
loop-a-preserved c = row-passed _ _ _ c.loop-a.invariant c.loop-a-test.true (rw c.in_default.is at c.row_fault.ensures)

pub returns : goal.returns
returns c = rw c.granted.ensures (none_found _ _ _ c.loop-a.invariant c.loop-a-test.false)
