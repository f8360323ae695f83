use Rattle.ask_exact.proofs.ExactLaws.{exact-refused, exact-granted}
use Rattle.ask_exact.proofs.exact_early.Goals as goal

pub returns-in_default : goal.returns-in_default
returns-in_default c = exact-refused c.args.book c.in_default.ensures c.answer.ensures c.answered.ensures

pub returns : goal.returns
returns c = exact-granted c.args.book c.in-Ok.ensures c.granted.ensures c.step_early.ensures c.answered-2.ensures
