use Rattle.theory.proofs.Lowest.{lowest-first, lowest-turn, lowest-hit, lowest-out}
use Rattle.laws.specs.Private.Nonzero.{nonzero}
use Rattle.engine.proofs.LengthLaws.{found-is}
use borrow.Author.Tests.{eq-eqb, ne_eqb}
use mathlib.Core.Path.{ap}
use native.Mathlib.Omega.{arith}
use Rattle.engine.proofs.idle_drop.Goals as goal
use Rattle.engine.proofs.idle_drop.Goals.{else-dropped-i-eq1-via-then-dropped-i-eq1+else-waits-i-eq0, else-dropped-i-eq1-via-else-dropped-i-eq1}

pub loop-i-init : goal.loop-i-init
loop-i-init c = lowest-first _ _

pub returns-then-waits-i-eq0 : goal.returns-then-waits-i-eq0
returns-then-waits-i-eq0 c =
    found-is c.loop-i.i (lowest-hit _ _ c.loop-i.i c.loop-i.invariant (omega arith) (rw (eq-eqb _ 1 c.if-dropped-i-eq1.true, eq-eqb _ 0 c.if-waits-i-eq0.true)))

pub loop-i-preserved : goal.loop-i-preserved
loop-i-preserved c =
    lowest-turn _ _ c.loop-i.i c.loop-i.invariant (omega arith)
    (elim c.else-dropped-i-eq1.branch [
      | else-dropped-i-eq1-via-then-dropped-i-eq1+else-waits-i-eq0 w ↦ rw (eq-eqb _ 1 w.if-dropped-i-eq1.true, ne_eqb _ 0 w.if-waits-i-eq0.false)
      | else-dropped-i-eq1-via-else-dropped-i-eq1 w ↦ rw (ne_eqb _ 1 w.if-dropped-i-eq1.false)
    ])

pub returns : goal.returns
returns c = ap nonzero (lowest-out _ _ c.loop-i.i c.loop-i.invariant (omega arith))
