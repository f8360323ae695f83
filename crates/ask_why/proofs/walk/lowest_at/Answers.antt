use Rattle.ask_why.proofs.WalkLaws.{lowest-hit, lowest-turn, lowest-end}
use native.Mathlib.Omega.{arith}
use mathlib.Core.Path.{refl}
use Rattle.ask_why.proofs.walk.lowest_at.Goals as goal

pub loop-j-init : goal.loop-j-init
loop-j-init c = (omega arith, refl)

pub returns-then-awaits-book : goal.returns-then-awaits-book
returns-then-awaits-book c = lowest-hit _ _ _ c.loop-j.invariant.1 (omega arith) (rw c.awaits.ensures at c.if-awaits-book.true)

pub loop-j-preserved : goal.loop-j-preserved
loop-j-preserved c = (omega arith, lowest-turn _ _ _ c.loop-j.invariant.1 (omega arith) (rw c.awaits.ensures at c.if-awaits-book.false))

pub returns : goal.returns
returns c = lowest-end _ _ _ c.loop-j.invariant.1 (omega arith)
