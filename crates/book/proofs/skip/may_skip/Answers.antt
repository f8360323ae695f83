use borrow.Author.Tests.{eq-eqb, ne_eqb}
use Rattle.book.proofs.skip.may_skip.Goals as goal

pub returns-then-book-i-ne1 : goal.returns-then-book-i-ne1
returns-then-book-i-ne1 c = rw (ne_eqb _ _ c.if-book-i-ne1.true)

pub may_go-requires : goal.may_go-requires
may_go-requires c = record { i_bound = c.requires.i_bound; small_row = c.requires.small_row }

pub returns : goal.returns
returns c = rw (eq-eqb _ _ c.if-book-i-ne1.false) c.may_go.ensures
