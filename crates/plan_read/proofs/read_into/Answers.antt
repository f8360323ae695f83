use mathlib.Core.Path.{refl, ap, ◌∙◌}
use Rattle.std.proofs.lemmas.Result.{err_from_is_err_and}
use Rattle.plan_judge.specs.Tasks.{judged_alone}
use Rattle.plan_read.proofs.ReadLaws.{reading-err, reading-fault, reading-in}
use Rattle.plan_read.proofs.read_into.Goals as goal

pub returns-in_err-read_lines : goal.returns-in_err-read_lines
returns-in_err-read_lines c =
    let p = err_from_is_err_and c.from_residual.result c.from_residual.ensures.1 in
    rw (p.1, p.2) (c.in_err-read_lines.ensures.0, reading-err _ _ c.in_err-read_lines.ensures.1)

pub returns-then-fault-ne0 : goal.returns-then-fault-ne0
returns-then-fault-ne0 c =
    (c.zero_plan.ensures, reading-fault _ _ c.in_ok-read_lines.ensures refl (c.judge_tasks-fault.ensures ∙ ap judged_alone c.view.ensures) c.if-fault-ne0.true)

pub returns : goal.returns
returns c = reading-in _ _ c.in_ok-read_lines.ensures refl (c.judge_tasks-fault.ensures ∙ ap judged_alone c.view.ensures) c.if-fault-ne0.false
