use Rattle.plan_write.proofs.RunLaws.{nothing}
use Rattle.plan_write.proofs.WriteLaws.{ready-stands, ready-none}
use Rattle.plan_write.proofs.parts.put_ready.Goals as goal

pub put_number_field-requires : goal.put_number_field-requires
put_number_field-requires c = rw (ready-stands _ _ c.if-edition-eq2.true) at c.requires

pub returns-then-edition-eq2 : goal.returns-then-edition-eq2
returns-then-edition-eq2 c = rw (ready-stands _ _ c.if-edition-eq2.true) c.put_number_field.ensures

pub returns : goal.returns
returns c = rw (ready-none _ _ c.if-edition-eq2.false) (nothing _ _)
