use mathlib.Core.Path.{sym, ◌∙◌}
use Rattle.plan_read.proofs.SizesLaws.{sizes-count, sizes-word, sizes-no-edition, sizes-no-boards, sizes-no-tasks, sizes-in}
use Rattle.plan_read.proofs.fields.read_sizes.Goals as goal

pub returns-then-count_fields-ne4 : goal.returns-then-count_fields-ne4
returns-then-count_fields-ne4 c = sizes-count _ _ (λ e. c.if-count_fields-ne4.true (c.count_fields.ensures ∙ e))

pub returns-then-not-same : goal.returns-then-not-same
returns-then-not-same c = sizes-word _ _ (sym c.count_fields.ensures ∙ c.if-count_fields-ne4.false) (rw c.field.ensures at c.same.ensures) c.if-not-same.true

pub returns-in_err-edition : goal.returns-in_err-edition
returns-in_err-edition c =
    c.from_residual.ensures
    ∙ sizes-no-edition _ _ (sym c.count_fields.ensures ∙ c.if-count_fields-ne4.false) (rw c.field.ensures at c.same.ensures) c.if-not-same.false
    (sym c.in_err-edition.was ∙ (rw c.field-2.ensures at c.read_edition.ensures))

pub returns-in_err-boards : goal.returns-in_err-boards
returns-in_err-boards c =
    c.from_residual-in_err-boards.ensures
    ∙ sizes-no-boards _ _ (sym c.count_fields.ensures ∙ c.if-count_fields-ne4.false) (rw c.field.ensures at c.same.ensures) c.if-not-same.false
    (sym c.in_ok-edition.was ∙ (rw c.field-2.ensures at c.read_edition.ensures))
    (sym c.in_err-boards.was ∙ (rw c.field-3.ensures at c.size.ensures))

pub returns-in_err-tasks : goal.returns-in_err-tasks
returns-in_err-tasks c =
    c.from_residual-in_err-tasks.ensures
    ∙ sizes-no-tasks _ _ (sym c.count_fields.ensures ∙ c.if-count_fields-ne4.false) (rw c.field.ensures at c.same.ensures) c.if-not-same.false
    (sym c.in_ok-edition.was ∙ (rw c.field-2.ensures at c.read_edition.ensures))
    (sym c.in_ok-boards.was ∙ (rw c.field-3.ensures at c.size.ensures))
    (sym c.in_err-tasks.was ∙ (rw c.field-4.ensures at c.size-2.ensures))

pub returns : goal.returns
returns c =
    sizes-in _ _ (sym c.count_fields.ensures ∙ c.if-count_fields-ne4.false) (rw c.field.ensures at c.same.ensures) c.if-not-same.false
    (sym c.in_ok-edition.was ∙ (rw c.field-2.ensures at c.read_edition.ensures))
    (sym c.in_ok-boards.was ∙ (rw c.field-3.ensures at c.size.ensures))
    (sym c.in_ok-tasks.was ∙ (rw c.field-4.ensures at c.size-2.ensures))
