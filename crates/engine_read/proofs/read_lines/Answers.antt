use Rattle.engine_read.proofs.WalkLaws.{asked-given, asked-refused}
use Rattle.engine_read.proofs.read_lines.Goals as goal

pub returns-in-Ok : goal.returns-in-Ok
returns-in-Ok c = asked-given c.args.rule c.args.tasks c.args.begin.now c.args.finish.now c.args.line c.args.text.now c.in-Ok.ensures c.granted.ensures

pub returns-in-Err : goal.returns-in-Err
returns-in-Err c = asked-refused c.args.rule c.args.tasks c.args.begin.now c.args.finish.now c.args.line c.args.text.now c.in-Err.ensures c.asks_nothing.ensures
