use Rattle.school_read.proofs.FormLaws.{remark-early, remark-refused, remark-none}
use Rattle.school_read.proofs.is_remark.Goals as goal

pub returns-then-same : goal.returns-then-same
returns-then-same c = remark-early _ _ c.same.ensures c.if-same.true c.two_ticks.ensures

pub returns-then-same-2 : goal.returns-then-same-2
returns-then-same-2 c = remark-refused _ _ c.same.ensures c.if-same.false c.same-2.ensures c.if-same-2.true c.three_ticks.ensures

pub returns : goal.returns
returns c = remark-none _ _ c.same.ensures c.if-same.false c.same-2.ensures c.if-same-2.false
