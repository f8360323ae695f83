use mathlib.Core.Path.{ap, ◌∙◌}
use Rattle.plan.specs.Value.{is_accepted, judged_answer}
use Rattle.plan_read.proofs.FormLaws.{refused_reading}
use Rattle.plan_convert.proofs.ConvertLaws.{convert-not, convert-faulty, convert-made}
use Rattle.plan_convert.proofs.convert.Goals as goal

pub returns-then-not-accepted-plan : goal.returns-then-not-accepted-plan
returns-then-not-accepted-plan c = convert-not _ (c.is_accepted-accepted.ensures ∙ ap is_accepted c.view.ensures) c.if-not-accepted-plan.true (c.refused.ensures ∙ ap refused_reading c.answer.ensures)

pub returns-then-answer-ne0 : goal.returns-then-answer-ne0
returns-then-answer-ne0 c = convert-faulty _ (c.is_accepted-accepted.ensures ∙ ap is_accepted c.view.ensures) c.if-not-accepted-plan.false c.make_exclusive.ensures (c.judge_plan-answer.ensures ∙ ap judged_answer c.view-2.ensures) c.if-answer-ne0.true c.refused-then-answer-ne0.ensures

pub returns : goal.returns
returns c = convert-made _ (c.is_accepted-accepted.ensures ∙ ap is_accepted c.view.ensures) c.if-not-accepted-plan.false c.make_exclusive.ensures (c.judge_plan-answer.ensures ∙ ap judged_answer c.view-2.ensures) c.if-answer-ne0.false
