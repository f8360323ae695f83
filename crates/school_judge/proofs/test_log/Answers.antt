use Rattle.std.proofs.lemmas.Result.{err_from_is_err_and}
use mathlib.Core.Path.{◌∙◌}
use native.Mathlib.Omega.{arith}
use Rattle.plan.specs.Value.{at}
use Rattle.plan.specs.View.{viewed}
use Rattle.school.specs.Tests.{is_mislong, is_untimely}
use Rattle.school_judge.specs.Tests.{is_amiss}
use Rattle.school_judge.proofs.ToldLaws.{fault-told}
use Rattle.school_judge.proofs.TestLaws.{stop-wrong, stop-mislong, stop-against, last_told}
use Rattle.school_judge.proofs.test_log.Goals as goal

pub returns-in_err-task_fault : goal.returns-in_err-task_fault
returns-in_err-task_fault c =
    let p = err_from_is_err_and c.from_residual.result c.from_residual.ensures.1 in
    rw (p.1, p.2) (stop-wrong _ _ _ _ (c.from-tasks.ensures ∙ c.few.ensures) (c.in_err-task_fault.ensures ∙ fault-told 24 c.from-tasks.result (is_amiss c.args.log.now.right.now) (λ e. omega arith) c.amiss.ensures))

pub returns-in_err-task_fault-2 : goal.returns-in_err-task_fault-2
returns-in_err-task_fault-2 c =
    let p = err_from_is_err_and c.from_residual-in_err-task_fault-2.result c.from_residual-in_err-task_fault-2.ensures.1 in
    rw (p.1, p.2) (stop-mislong _ _ _ _ (c.from-tasks.ensures ∙ c.few.ensures) (c.in_ok-task_fault.ensures ∙ fault-told 24 c.from-tasks.result (is_amiss c.args.log.now.right.now) (λ e. omega arith) c.amiss.ensures) (c.in_err-task_fault-2.ensures ∙ fault-told 25 c.from-tasks.result (is_mislong (viewed c.args.plan.now) (at c.args.log.now.start.now) (at c.args.log.now.end.now)) (λ e. omega arith) c.mislong.ensures))

pub returns-in_err-fault : goal.returns-in_err-fault
returns-in_err-fault c =
    let p = err_from_is_err_and c.from_residual-in_err-fault.result c.from_residual-in_err-fault.ensures.1 in
    rw (p.1, p.2) (stop-against _ _ _ _ (c.from-tasks.ensures ∙ c.few.ensures) (c.in_ok-task_fault.ensures ∙ fault-told 24 c.from-tasks.result (is_amiss c.args.log.now.right.now) (λ e. omega arith) c.amiss.ensures) (c.in_ok-task_fault-2.ensures ∙ fault-told 25 c.from-tasks.result (is_mislong (viewed c.args.plan.now) (at c.args.log.now.start.now) (at c.args.log.now.end.now)) (λ e. omega arith) c.mislong.ensures) c.in_err-fault.ensures)

pub returns : goal.returns
returns c = c.task_fault-3.ensures ∙ fault-told 27 c.from-tasks.result (is_untimely (viewed c.args.plan.now) (at c.args.log.now.start.now)) (λ e. omega arith) c.untimely.ensures ∙ last_told _ _ _ _ (c.from-tasks.ensures ∙ c.few.ensures) (c.in_ok-task_fault.ensures ∙ fault-told 24 c.from-tasks.result (is_amiss c.args.log.now.right.now) (λ e. omega arith) c.amiss.ensures) (c.in_ok-task_fault-2.ensures ∙ fault-told 25 c.from-tasks.result (is_mislong (viewed c.args.plan.now) (at c.args.log.now.start.now) (at c.args.log.now.end.now)) (λ e. omega arith) c.mislong.ensures) c.in_ok-fault.ensures
