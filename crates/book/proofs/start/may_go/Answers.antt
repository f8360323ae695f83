use borrow.Author.Tests.{eq-eqb, ne_eqb}
use Rattle.book.proofs.start.may_go.Goals as goal

pub returns-then-mark-i-ne0 : goal.returns-then-mark-i-ne0
returns-then-mark-i-ne0 c = rw (ne_eqb _ _ c.if-mark-i-ne0.true)

pub row_ended-requires : goal.row_ended-requires
row_ended-requires c = c.requires.small_row c.if-mark-i-ne0.false

pub returns : goal.returns
returns c = rw (eq-eqb _ _ c.if-mark-i-ne0.false) c.row_ended.ensures
