use mathlib.Core.Path.{sym, ap, ◌∙◌}
use Rattle.ask_sheet.specs.Sets.{renewed_by}
use Rattle.ask_sheet.proofs.Renewed.{renewed-is, sheet-blank}
use Rattle.ask_sheet.proofs.fresh_sheet.Goals as goal

pub returns : goal.returns
returns c =
    let a = c.args in
    c.renew_sheet.ensures
    ∙ ap (renewed_by a.held.now a.begin.now (record { runs = 0; waits = 0 }) a.after) (c.zero_sheet.ensures ∙ sym (sheet-blank a.held.now a.begin.now))
    ∙ renewed-is a.held.now a.begin.now (record { runs = 0; waits = 0 }) a.after
