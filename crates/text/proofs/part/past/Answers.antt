use Rattle.text.proofs.Parts.{past-some, past-none}
use Rattle.text.proofs.part.past.Goals as goal

pub returns-then-k-n : goal.returns-then-k-n
returns-then-k-n c = past-some c.args.s.now c.args.k

pub returns : goal.returns
returns c = past-none c.args.s.now c.args.k c.if-k-n.false
