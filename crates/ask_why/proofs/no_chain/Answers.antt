use Rattle.ask_why.proofs.no_chain.Goals as goal

pub returns : goal.returns
returns c = rw c.refuse.ensures
