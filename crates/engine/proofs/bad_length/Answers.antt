use Rattle.theory.proofs.Lowest.{lowest-first, lowest-turn, lowest-hit, lowest-out}
use Rattle.laws.specs.Private.Nonzero.{nonzero}
use Rattle.engine.proofs.LengthLaws.{found-is, dropped-bad, going-bad}
use mathlib.Core.Path.{ap}
use native.Mathlib.Omega.{arith}
use Rattle.engine.proofs.bad_length.Goals as goal
use Rattle.engine.proofs.bad_length.Goals.{else-given-i-ne1-via-then-given-i-ne1+else-is_outside, else-given-i-ne1-via-else-given-i-ne1}

pub loop-i-init : goal.loop-i-init
loop-i-init c = lowest-first _ _

pub returns-then-is_outside : goal.returns-then-is_outside
returns-then-is_outside c =
    found-is c.loop-i.i (lowest-hit _ _ c.loop-i.i c.loop-i.invariant (omega arith) (going-bad _ c.if-given-i-ne1.true c.is_outside.ensures c.if-is_outside.true))

pub loop-i-preserved : goal.loop-i-preserved
loop-i-preserved c =
    lowest-turn _ _ c.loop-i.i c.loop-i.invariant (omega arith)
    (elim c.else-given-i-ne1.branch [
      | else-given-i-ne1-via-then-given-i-ne1+else-is_outside w ↦ going-bad _ w.if-given-i-ne1.true w.is_outside.ensures w.if-is_outside.false
      | else-given-i-ne1-via-else-given-i-ne1 w ↦ dropped-bad _ _ w.if-given-i-ne1.false
    ])

pub returns : goal.returns
returns c = ap nonzero (lowest-out _ _ c.loop-i.i c.loop-i.invariant (omega arith))
