use mathlib.Core.Path.{◌∙◌}
use mathlib.Core.Bool.{◌&&◌}
use Rattle.ask_sheet.proofs.Lines.{same-bytes}
use Rattle.ask_sheet.proofs.is_same.Goals as goal

pub returns : goal.returns
returns c =
    let a = c.args.a in
    let b = c.args.b in
    c.eq.ensures ∙ (λ i. same-bytes a.running b.running i && same-bytes a.next b.next i)
