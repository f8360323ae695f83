use Rattle.ask_why.proofs.FollowLaws.{cause-soon, cause-later}
use Rattle.ask_why.proofs.walk.cause_of.Goals as goal

pub returns-then-book-i : goal.returns-then-book-i
returns-then-book-i c = let a = c.args in cause-soon a.book.now a.waits.now a.tasks a.i c.requires.1 c.due_at-due.ensures c.if-book-i.true

pub returns : goal.returns
returns c = let a = c.args in cause-later a.book.now a.waits.now a.tasks a.i c.requires.1 c.due_at-due.ensures c.if-book-i.false c.lowest_at.ensures
