use borrow.Author.Tests.{lt-ltb, le-ltb}
use Rattle.plan_judge.proofs.pairs.breaks_after.Goals as goal

pub returns-then-plan-a : goal.returns-then-plan-a
returns-then-plan-a c = rw (lt-ltb _ _ c.if-plan-a.true) (rw c.after_of.ensures at c.is_listed.ensures)

pub returns : goal.returns
returns c = rw (le-ltb _ _ c.if-plan-a.false)
