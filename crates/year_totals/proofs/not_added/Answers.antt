use mathlib.Core.Path.{ap, ◌∙◌}
use Rattle.school.specs.Tests.{unread}
use Rattle.year_totals.proofs.not_added.Goals as goal

pub returns : goal.returns
returns c =
    let none = c.not_read.ensures ∙ ap unread c.granted.ensures in
    λ i. record { answer = c.args.answer; judged = none i; totals = c.args.totals }
