use Rattle.engine_write.proofs.TableLaws.{ran-short, ran-refused, ran-unasked, ran-unworked, ran-rows}
use Rattle.engine_write.proofs.write_timetable.Goals as goal

-- `write_timetable` meets its contract: each return by the tests that led there.
pub returns-then-out-lt-TABLE_MOST : goal.returns-then-out-lt-TABLE_MOST
returns-then-out-lt-TABLE_MOST c = ran-short c.args.plan.now c.args.lengths.now c.args.out.now c.if-out-lt-TABLE_MOST.true

pub returns-then-read-ne0 : goal.returns-then-read-ne0
returns-then-read-ne0 c = ran-refused c.args.plan.now c.args.lengths.now c.args.out.now c.if-out-lt-TABLE_MOST.false c.read_plan.ensures c.if-read-ne0.true c.put_refused.ensures

pub returns-then-said-ne0 : goal.returns-then-said-ne0
returns-then-said-ne0 c = ran-unasked c.args.plan.now c.args.lengths.now c.args.out.now c.if-out-lt-TABLE_MOST.false c.read_plan.ensures c.if-read-ne0.false c.read_lengths-rule.ensures c.if-said-ne0.true c.put_refused-then-said-ne0.ensures

pub returns-then-worked-ne0 : goal.returns-then-worked-ne0
returns-then-worked-ne0 c = ran-unworked c.args.plan.now c.args.lengths.now c.args.out.now c.if-out-lt-TABLE_MOST.false c.read_plan.ensures c.if-read-ne0.false c.read_lengths-rule.ensures c.if-said-ne0.false c.work_out-table.ensures c.if-worked-ne0.true c.put_refused-then-worked-ne0.ensures

pub returns : goal.returns
returns c = ran-rows c.args.plan.now c.args.lengths.now c.args.out.now c.if-out-lt-TABLE_MOST.false c.read_plan.ensures c.if-read-ne0.false c.read_lengths-rule.ensures c.if-said-ne0.false c.work_out-table.ensures c.if-worked-ne0.false c.put_rows.ensures
