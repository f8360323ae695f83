use Prim.Native.Nat.{◌+◌}
use mathlib.Core.Path.{refl, sym, ap, ◌∙◌}
use native.Mathlib.Omega.{arith}
use borrow.Author.Tests.{eq-eqb, eqb-true}
use Rattle.laws.proofs.Cases.{true-false}
use Rattle.plan.specs.Answer.{refuse}
use Rattle.plan.specs.declared.Plan.{Plan}
use Rattle.plan_read.specs.Private.Editions.{is_mended}
use Rattle.plan_read.specs.Private.Fields.{FirstRead}
use Rattle.plan_read.proofs.FormLaws.{refused_reading}
use Rattle.plan_read.proofs.TaskLaws.{going_start, past-line, going-refused, column-small, going-turn, going_more, going_end, line-fits}
use Rattle.plan_read.proofs.lines.read_tasks.Goals as goal

pub loop-k-init : goal.loop-k-init
loop-k-init c = (c.number-plan.ensures, refl, refl, going_start _ _ c.requires.0 c.part_after-rest.ensures)

pub next_line-requires : goal.next_line-requires
next_line-requires c = (c.requires.1.few_tasks, c.find-end.ensures)

pub returns-in-Err : goal.returns-in-Err
returns-in-Err c =
    ap refused_reading (c.refuse.ensures ∙ ap (λ n. refuse n (c.loop-k.k + 2) c.in-Err.fault.column) c.number.ensures)
    ∙ going-refused _ _ _ c.loop-k.invariant.3 c.requires.1 c.loop-k-test.true c.in-Err.ensures

pub overflow_cast-fault : goal.overflow_cast-fault
overflow_cast-fault c = record { fits = column-small _ _ _ c.loop-k.invariant.3 c.requires.1 c.loop-k-test.true c.in-Err.ensures }

pub put_line-requires : goal.put_line-requires
put_line-requires c = line-fits _ _ _ c.loop-k.invariant.3 c.requires.1 c.loop-k-test.true c.in-Ok.ensures

pub loop-k-preserved : goal.loop-k-preserved
loop-k-preserved c =
    let i = c.loop-k.invariant in
    rw c.put_line.ensures
    (i.0, i.1, i.2, going-turn _ _ _ i.3 c.requires.1 c.loop-k-test.true c.in-Ok.ensures (past-line _ c.find-end.ensures c.past-rest.ensures))

pub returns-then-not-is_empty : goal.returns-then-not-is_empty
returns-then-not-is_empty c =
    ap refused_reading c.answer.ensures
    ∙ going_more _ _ _ c.loop-k.invariant.3 c.requires.1 (omega arith) (λ z. true-false (eq-eqb _ 0 z) (sym c.is_empty.ensures ∙ c.if-not-is_empty.true))

pub returns : goal.returns
returns c =
    let i = c.loop-k.invariant in
    let plan : Plan = c.loop-k.plan in
    let first : FirstRead (is_mended c.args.sizes.edition) c.args.text.now plan.edition plan.boards plan.tasks = rw (i.0, i.1, i.2) c.requires.1 in
    going_end _ _ _ i.3 first (omega (arith, i.2)) (eqb-true _ 0 (sym c.is_empty.ensures ∙ c.if-not-is_empty.false))
