use Rattle.school_write.proofs.TextLaws.{ran-short, ran-refused, ran-judged}
use Rattle.school_write.proofs.write_judged.Goals as goal

pub returns-then-out-lt-JUDGED_MOST : goal.returns-then-out-lt-JUDGED_MOST
returns-then-out-lt-JUDGED_MOST c = ran-short c.args.plan.now c.args.log.now c.args.out.now c.if-out-lt-JUDGED_MOST.true

pub returns-then-reading-ne0 : goal.returns-then-reading-ne0
returns-then-reading-ne0 c = ran-refused c.args.plan.now c.args.log.now c.args.out.now c.if-out-lt-JUDGED_MOST.false c.read_plan-reading.ensures c.if-reading-ne0.true c.put_refused.ensures

pub returns : goal.returns
returns c = ran-judged c.args.plan.now c.args.log.now c.args.out.now c.if-out-lt-JUDGED_MOST.false c.read_plan-reading.ensures c.if-reading-ne0.false c.judge_log-judged.ensures c.put_judged.ensures
