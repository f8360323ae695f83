use Rattle.year_write.proofs.LineLaws.{none-wrote, some-wrote}
use Rattle.year_write.proofs.put_or_none.Goals as goal

pub returns-then-ended-eq0 : goal.returns-then-ended-eq0
returns-then-ended-eq0 c = none-wrote _ _ c.if-ended-eq0.true c.requires c.put_text.ensures

pub returns : goal.returns
returns c = some-wrote _ _ c.if-ended-eq0.false c.put_short.ensures
