use borrow.Author.Tests.{eq-eqb, ne_eqb}
use mathlib.Core.Path.{ap, ◌∙◌}
use Rattle.ask_sheet.specs.Sets.{renewed_by}
use Rattle.ask_sheet.specs.declared.Standing.{Standing}
use Rattle.ask_drives.proofs.kept_sheet.Goals as goal

pub returns-then-answer-ne0 : goal.returns-then-answer-ne0
returns-then-answer-ne0 c = rw (ne_eqb c.args.answer.code 0 c.if-answer-ne0.true)

pub returns : goal.returns
returns c =
    let a = c.args in
    rw (eq-eqb a.answer.code 0 c.if-answer-ne0.false)
    (c.renew_sheet.ensures ∙ ap (λ (s : Standing). renewed_by a.seen.now.held a.book.now.begin a.seen.now.before s a.sheet) c.standing.ensures)
