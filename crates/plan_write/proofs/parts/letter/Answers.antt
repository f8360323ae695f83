use borrow.Author.Tests.{eq-eqb, ne_eqb}
use Rattle.plan_write.proofs.parts.letter.Goals as goal

pub returns-then-hold-eq1 : goal.returns-then-hold-eq1
returns-then-hold-eq1 c = rw (eq-eqb _ _ c.if-hold-eq1.true)

pub returns : goal.returns
returns c = rw (ne_eqb _ _ c.if-hold-eq1.false)
