use native.Mathlib.Omega.{arith}
use Rattle.plan_judge.proofs.OrderLaws.{none_over, one-over}
use Rattle.plan_judge.proofs.pairs.next_pair.Goals as goal

pub returns-then-not-ordered : goal.returns-then-not-ordered
returns-then-not-ordered c = none_over _ _ _ _

pub loop-i-init : goal.loop-i-init
loop-i-init c = none_over _ _ _ _

pub returns-then-begin-i : goal.returns-then-begin-i
returns-then-begin-i c = c.loop-i.invariant

pub loop-i-preserved : goal.loop-i-preserved
loop-i-preserved c =
    one-over _ _ c.loop-i.invariant c.loop-i-test.true c.if-not-ordered.false c.if-begin-i.false

pub returns : goal.returns
returns c = record {
  onward = c.requires.1;
  idle = λ j low high. c.loop-i.invariant.idle j low (omega (arith, c.loop-i-test.false));
}
