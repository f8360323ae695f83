use Rattle.ask_why.proofs.WhyLaws.{why-unsound, why-sound}
use Rattle.ask_why.proofs.why.Goals as goal

pub returns-in_default : goal.returns-in_default
returns-in_default c = why-unsound c.args.book c.args.task (rw c.number.ensures at c.no_chain.ensures) c.in_default.ensures

pub returns : goal.returns
returns c = why-sound c.args.book c.args.task c.in-Ok.ensures c.chain_by.ensures
