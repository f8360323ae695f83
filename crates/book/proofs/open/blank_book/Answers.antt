use Rattle.book.proofs.LaidOut.{blank-laid}
use Rattle.book.proofs.open.blank_book.Goals as goal

pub returns : goal.returns
returns c = let a = c.args in blank-laid a.rule a.plan
