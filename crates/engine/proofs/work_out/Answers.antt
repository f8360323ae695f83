use Rattle.engine.proofs.TimetableLaws.{refused_plan, refused-lengths, solvable, filled}
use mathlib.Core.Path.{ap, ◌∙◌}
use Rattle.engine.specs.Timetable.{zero_timetable}
use Rattle.plan.specs.declared.Answer.{Answer}
use Rattle.engine.proofs.work_out.Goals as goal

pub returns-in_default : goal.returns-in_default
returns-in_default c =
    refused_plan c.args.plan c.args.rule c.args.given c.number_of.ensures c.view.ensures c.in_default.ensures
    (c.refused.ensures ∙ ap (λ (x : Answer). zero_timetable x) c.answer.ensures)

pub returns-in-Err : goal.returns-in-Err
returns-in-Err c =
    refused-lengths c.args.plan c.args.rule c.args.given c.number_of.ensures c.view.ensures c.in-Some.ensures c.in-Err.ensures c.refused-in-Err.ensures

pub work_all-requires : goal.work_all-requires
work_all-requires c =
    rw c.from.ensures
    (solvable c.args.plan c.args.rule c.args.given c.number_of.ensures c.view.ensures c.in-Some.ensures c.in_default-length_answer.ensures)

pub returns : goal.returns
returns c =
    let times = rw c.from.ensures at c.work_all.ensures in
    filled c.args.plan c.args.rule c.args.given c.number_of.ensures c.view.ensures c.in-Some.ensures c.in_default-length_answer.ensures c.granted.ensures times.0 times.1
