use mathlib.Core.Bool.{Bool, ◌&&◌}
use mathlib.Core.Path.{ap, ◌∙◌}
use Rattle.text_fields.specs.Items.{between}
use Rattle.plan.specs.View.{viewed}
use Rattle.plan_judge.proofs.PlaceLaws.{tasks-nine, tasks-in-range, tasks-judged}
use Rattle.plan_judge.proofs.tasks.judge_tasks.Goals as goal

pub returns-then-not-plan-places_ok : goal.returns-then-not-plan-places_ok
returns-then-not-plan-places_ok c =
    let p = viewed c.args.plan.now in
    c.answer.ensures ∙ tasks-nine p (ap (λ (b : Bool). between 1 64 p.tasks && b) c.places_ok.ensures) c.if-not-plan-places_ok.true

pub judge_kept-requires : goal.judge_kept-requires
judge_kept-requires c =
    let p = viewed c.args.plan.now in
    tasks-in-range p (ap (λ (b : Bool). between 1 64 p.tasks && b) c.places_ok.ensures) c.if-not-plan-places_ok.false

pub returns : goal.returns
returns c =
    let p = viewed c.args.plan.now in
    tasks-judged p (ap (λ (b : Bool). between 1 64 p.tasks && b) c.places_ok.ensures) c.if-not-plan-places_ok.false c.judge_kept.ensures
