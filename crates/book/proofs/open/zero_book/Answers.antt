use Rattle.laws.specs.Each.{each, rows}
use Rattle.plan.specs.Value.{plan_of, zero_plan}
use Rattle.book.proofs.LaidOut.{blank-laid}
use Rattle.book.proofs.open.zero_book.Goals as goal

pub returns : goal.returns
unfolding plan_of each rows
returns c = blank-laid 0 zero_plan
