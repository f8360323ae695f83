use mathlib.Core.Path.{ap, ◌∙◌}
use Rattle.plan_read.proofs.FormLaws.{refused_reading, reading-long, reading-no-line, reading-no-sizes, first_read}
use Rattle.plan_read.proofs.lines.fill_plan.Goals as goal

pub returns-then-text-gt-TEXT_MOST : goal.returns-then-text-gt-TEXT_MOST
returns-then-text-gt-TEXT_MOST c =
    ap refused_reading c.answer.ensures ∙ reading-long _ _ c.if-text-gt-TEXT_MOST.true

pub returns-then-find-text : goal.returns-then-find-text
returns-then-find-text c =
    ap refused_reading c.answer-then-find-text.ensures
    ∙ reading-no-line _ _ c.if-text-gt-TEXT_MOST.false c.find.ensures c.if-find-text.true

pub read_tasks-requires : goal.read_tasks-requires
read_tasks-requires c =
    let first = first_read _ _ c.if-text-gt-TEXT_MOST.false c.find.ensures c.if-find-text.false (rw c.part_before.ensures at c.in-Some.ensures) in
    (c.requires, rw (← first.0) first.1)

pub returns-in_default : goal.returns-in_default
returns-in_default c =
    ap refused_reading c.answer-in_default.ensures
    ∙ reading-no-sizes _ _ c.if-text-gt-TEXT_MOST.false c.find.ensures c.if-find-text.false (rw c.part_before.ensures at c.in_default.ensures)

pub returns : goal.returns
returns c =
    let first = first_read _ _ c.if-text-gt-TEXT_MOST.false c.find.ensures c.if-find-text.false (rw c.part_before.ensures at c.in-Some.ensures) in
    rw first.0 c.read_tasks.ensures
