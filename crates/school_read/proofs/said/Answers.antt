use mathlib.Core.Path.{ap, ◌∙◌}
use Rattle.school.specs.Said.{said}
use Rattle.school_read.proofs.FormLaws.{said-word, said-start, said-end, said-remark}
use Rattle.school_read.proofs.said.Goals as goal

pub returns-then-word-line : goal.returns-then-word-line
returns-then-word-line c = said-word _ _ _ c.part_before-word.ensures c.if-word-line.true

pub returns-in_err-read_moment : goal.returns-in_err-read_moment
returns-in_err-read_moment c =
    ap said c.from_residual.ensures ∙ said-start _ _ _ c.part_before-word.ensures c.if-word-line.false c.past-rest.ensures c.same.ensures c.if-same.true c.in_err-read_moment.ensures

pub returns-then-same : goal.returns-then-same
returns-then-same c =
    said-start _ _ _ c.part_before-word.ensures c.if-word-line.false c.past-rest.ensures c.same.ensures c.if-same.true c.in_ok-read_moment.ensures

pub returns-in_err-read_moment-2 : goal.returns-in_err-read_moment-2
returns-in_err-read_moment-2 c =
    ap said c.from_residual-in_err-read_moment-2.ensures ∙ said-end _ _ _ c.part_before-word.ensures c.if-word-line.false c.past-rest.ensures c.same.ensures c.if-same.false c.same-2.ensures c.if-same-2.true c.in_err-read_moment-2.ensures

pub returns-then-same-2 : goal.returns-then-same-2
returns-then-same-2 c =
    said-end _ _ _ c.part_before-word.ensures c.if-word-line.false c.past-rest.ensures c.same.ensures c.if-same.false c.same-2.ensures c.if-same-2.true c.in_ok-read_moment-2.ensures

pub returns : goal.returns
returns c =
    ap said c.then_some.ensures
    ∙ said-remark _ _ _ c.part_before-word.ensures c.if-word-line.false c.past-rest.ensures c.same.ensures c.if-same.false c.same-2.ensures c.if-same-2.false c.is_remark.ensures
