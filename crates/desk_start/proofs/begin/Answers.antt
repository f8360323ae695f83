use Rattle.desk_start.proofs.StartLaws.{begun-is}
use borrow.Author.Rules.{rules}
use Rattle.desk_start.proofs.begin.Goals as goal

pub returns : goal.returns
returns c = let ran = c.run_log-length.ensures in begun-is c.args.plan.now c.args.ends.now c.args.out.now (search rules) c.text_of-text.ensures ran.0 ran.1 ran.2 c.read_plan.ensures c.walk_text-stops.ensures c.way_of-way.ensures
