-- Each return by the tests that led there.
use Rattle.log_run.proofs.LogLaws.{ran-short, ran-refused, ran-long, log-fits, ran-chosen-log}
use Rattle.log_run.proofs.run_log.Goals as goal

pub returns-then-out-lt-LOG_MOST : goal.returns-then-out-lt-LOG_MOST
returns-then-out-lt-LOG_MOST c = ran-short c.args.plan.now c.args.ends.now c.args.out.now c.if-out-lt-LOG_MOST.true

pub returns-then-reading-ne0 : goal.returns-then-reading-ne0
returns-then-reading-ne0 c =
    ran-refused c.args.plan.now c.args.ends.now c.args.out.now c.if-out-lt-LOG_MOST.false c.read-reading.ensures c.if-reading-ne0.true c.put_refused.ensures

pub returns-then-ends-gt-TEXT_MOST : goal.returns-then-ends-gt-TEXT_MOST
returns-then-ends-gt-TEXT_MOST c =
    ran-long (record { long = c.if-out-lt-LOG_MOST.false; reads = c.read-reading.ensures; zero = c.if-reading-ne0.false })
    c.args.ends.now c.if-ends-gt-TEXT_MOST.true (rw c.answer.ensures at c.put_refused-then-ends-gt-TEXT_MOST.ensures)

pub run_chosen-requires : goal.run_chosen-requires
run_chosen-requires c =
    log-fits (record { long = c.if-out-lt-LOG_MOST.false; reads = c.read-reading.ensures; zero = c.if-reading-ne0.false })
    c.args.ends.now c.if-ends-gt-TEXT_MOST.false

pub returns : goal.returns
returns c =
    ran-chosen-log (record { long = c.if-out-lt-LOG_MOST.false; reads = c.read-reading.ensures; zero = c.if-reading-ne0.false })
    c.args.ends.now c.if-ends-gt-TEXT_MOST.false c.run_chosen.ensures
