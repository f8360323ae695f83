use Rattle.engine_write.proofs.RowLaws.{rowed-none, rowed-all}
use Rattle.engine_write.proofs.put_rows.Goals as goal

-- `put_rows` meets its contract: nothing, or the lines of at most 64 tasks.
pub returns-then-out-lt-TABLE_MOST : goal.returns-then-out-lt-TABLE_MOST
returns-then-out-lt-TABLE_MOST c = rowed-none c.args.plan.now.board c.args.table.now.start c.args.table.now.end c.args.out.now c.args.plan.now.tasks c.if-out-lt-TABLE_MOST.true

pub returns : goal.returns
returns c = rowed-all c.args.plan.now.board c.args.table.now.start c.args.table.now.end c.args.plan.now.tasks c.if-out-lt-TABLE_MOST.false c.few.ensures c.put_all.ensures
