use Rattle.laws.proofs.Last.{later_first, later_more, later-less}
use Rattle.book.proofs.table.later_of.Goals as goal

pub returns-then-held-eq0 : goal.returns-then-held-eq0
returns-then-held-eq0 c = later_first _ _ _ c.if-held-eq0.true

pub returns-then-key-p : goal.returns-then-key-p
returns-then-key-p c = later_more _ _ _ c.if-held-eq0.false (rw c.from-p.ensures at c.if-key-p.true)

pub returns : goal.returns
returns c = later-less _ _ _ c.if-held-eq0.false (rw c.from-p.ensures at c.if-key-p.false)
