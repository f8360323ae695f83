use Rattle.year_write.proofs.AllLaws.{joined-none, joined-first, joined-best}
use Rattle.year_write.proofs.joined.Goals as goal

-- `joined` meets its contract: no board's, the first board's, or the better of two.
pub returns-then-next-eq0 : goal.returns-then-next-eq0
returns-then-next-eq0 c = joined-none c.args.all c.args.next c.if-next-eq0.true

pub returns-then-all-eq0 : goal.returns-then-all-eq0
returns-then-all-eq0 c = joined-first c.args.all c.args.next c.if-next-eq0.false c.if-all-eq0.true

pub returns : goal.returns
returns c = joined-best c.args.all c.args.next c.if-next-eq0.false c.if-all-eq0.false c.max.ensures c.min.ensures
