use Rattle.book.proofs.answer_of.Goals as goal

pub returns-then-code : goal.returns-then-code
returns-then-code c = rw c.if-code.true c.refuse.ensures

pub returns : goal.returns
returns c = rw c.if-code.false c.refuse-2.ensures
