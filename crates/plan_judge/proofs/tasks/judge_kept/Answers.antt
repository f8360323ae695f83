use mathlib.Core.Path.{◌∙◌}
use Rattle.plan.specs.View.{viewed}
use Rattle.plan_judge.proofs.StartLaws.{answered-late, answered-pairs}
use Rattle.plan_judge.proofs.tasks.judge_kept.Goals as goal

pub returns-then-least-ne0 : goal.returns-then-least-ne0
returns-then-least-ne0 c =
    c.answer.ensures ∙ answered-late (viewed c.args.plan.now) c.least_start-least.ensures c.if-least-ne0.true

pub returns : goal.returns
returns c =
    answered-pairs (viewed c.args.plan.now) c.least_start-least.ensures c.requires.0 c.if-least-ne0.false c.first_fault.ensures
