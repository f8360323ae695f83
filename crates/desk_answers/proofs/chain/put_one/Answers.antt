use Rattle.desk_answers.proofs.ChainLaws.{one_link}
use Rattle.desk_answers.proofs.chain.put_one.Goals as goal

pub returns : goal.returns
returns c = one_link c.args.book.now _ (rw c.from.ensures at c.saturating_sub-i.ensures) c.from-2.ensures c.at_or.ensures c.at_or-2.ensures c.end_of.ensures c.requires c.put_link.ensures
