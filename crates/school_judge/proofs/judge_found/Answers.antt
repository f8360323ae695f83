use Rattle.plan.specs.View.{viewed}
use Rattle.school_judge.proofs.JudgeLaws.{judged-with}
use Rattle.school_judge.proofs.TestLaws.{answer-is}
use Rattle.school_judge.proofs.judge_found.Goals as goal

pub returns : goal.returns
returns c =
    judged-with (viewed c.args.plan.now) c.args.waits.now c.args.found.now c.requires c.from-tasks.ensures c.known_tasks-known.ensures c.right_tasks-right.ensures c.known_ticks-start.ensures c.known_ticks-end.ensures
    (answer-is _ _ _ _ _ c.test_log.ensures c.err.ensures.value c.granted.ensures c.unwrap_or-answer.ensures)
