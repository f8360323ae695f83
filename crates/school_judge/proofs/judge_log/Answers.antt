use Rattle.school.specs.Tests.{unread}
use native.Mathlib.Omega.{arith}
use mathlib.Core.Path.{◌∙◌, ap}
use Rattle.plan.specs.declared.Plan.{Plan}
use Rattle.school_judge.proofs.JudgeLaws.{refused_plan, few, refused-long, line-fits, refused-line, judged-is}
use Rattle.school_judge.proofs.judge_log.Goals as goal

pub returns-in_default : goal.returns-in_default
returns-in_default c = refused_plan c.args.plan c.args.log.now c.view-view.ensures c.in_default.ensures (c.not_read.ensures ∙ ap unread c.answer.ensures)

pub returns-then-log-gt-TEXT_MOST : goal.returns-then-log-gt-TEXT_MOST
returns-then-log-gt-TEXT_MOST c = refused-long c.args.plan c.args.log.now c.view-view.ensures c.in-Some.ensures c.if-log-gt-TEXT_MOST.true (c.not_read-then-log-gt-TEXT_MOST.ensures ∙ ap unread c.answer-then-log-gt-TEXT_MOST.ensures)

pub overflow_cast-line : goal.overflow_cast-line
overflow_cast-line c = record { fits = line-fits c.args.plan c.args.log.now c.view-view.ensures c.in-Some.ensures c.if-log-gt-TEXT_MOST.false c.in-Err.ensures }

pub returns-in-Err : goal.returns-in-Err
returns-in-Err c = refused-line c.args.plan c.args.log.now c.view-view.ensures c.in-Some.ensures c.if-log-gt-TEXT_MOST.false c.in-Err.ensures (c.not_read-in-Err.ensures ∙ ap unread c.answer-in-Err.ensures)

pub judge_found-requires : goal.judge_found-requires
judge_found-requires c =
    let e = ap (λ (p : Plan). p.tasks) c.view-view.ensures in
    omega (arith, e, few c.args.plan c.args.log.now c.view-view.ensures c.in-Some.ensures)

pub returns-in-Ok : goal.returns-in-Ok
returns-in-Ok c = judged-is c.args.plan c.args.log.now c.view-view.ensures c.in-Some.ensures c.if-log-gt-TEXT_MOST.false c.in-Ok.ensures c.judge_found.ensures
