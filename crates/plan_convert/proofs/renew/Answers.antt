use Rattle.plan_convert.proofs.ConvertLaws.{renew-mended, renew-refused, renew-converted}
use Rattle.plan_convert.proofs.renew.Goals as goal

pub returns-then-not-same : goal.returns-then-not-same
returns-then-not-same c =
    renew-mended _ (rw (c.field.ensures, c.part_before.ensures) at c.same.ensures) c.if-not-same.true c.read_exclusive.ensures

pub returns-then-read-ne0 : goal.returns-then-read-ne0
returns-then-read-ne0 c =
    renew-refused _ (rw (c.field.ensures, c.part_before.ensures) at c.same.ensures) c.if-not-same.false c.read_plan-read.ensures c.if-read-ne0.true

pub returns : goal.returns
returns c =
    renew-converted _ (rw (c.field.ensures, c.part_before.ensures) at c.same.ensures) c.if-not-same.false c.read_plan-read.ensures c.if-read-ne0.false
    c.convert.ensures
