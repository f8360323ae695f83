use borrow.Author.Tests.{lt-ltb, le-ltb}
use Rattle.plan_judge.proofs.order.is_late.Goals as goal

pub returns-then-number-gt64 : goal.returns-then-number-gt64
returns-then-number-gt64 c = rw (lt-ltb _ _ c.if-number-gt64.true)

pub returns : goal.returns
returns c = rw (le-ltb _ _ c.if-number-gt64.false)
