use Rattle.desk_answers.proofs.DriveLaws.{next-none, next-some}
use Rattle.desk_answers.proofs.drive.put_next.Goals as goal

pub returns-then-task-eq0 : goal.returns-then-task-eq0
returns-then-task-eq0 c = next-none _ c.if-task-eq0.true c.requires c.put_text.ensures

pub returns : goal.returns
returns c = next-some _ c.if-task-eq0.false c.from.ensures c.put_after.ensures
