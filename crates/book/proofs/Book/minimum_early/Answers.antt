use mathlib.Core.Bool.{not}
use mathlib.Core.Path.{ap, ◌∙◌}
use Rattle.std.specs.Result.{is_ok}
use Rattle.book.proofs.ReportLaws.{figure-refused, figure-granted}
use Rattle.book.proofs.WaitLaws.{its-soundness, its-judged, its-figure}
use Rattle.book.proofs.Book.minimum_early.Goals as goal

pub returns-then-is_err : goal.returns-then-is_err
returns-then-is_err c =
    let v = c.view-view in
    figure-refused c.args.self (ap is_ok (its-judged v.result v.ensures c.sound_waits.ensures) ∙ its-soundness c.args.self)
    (ap not c.if-is_err.ensures.negation) c.answer.ensures

pub returns : goal.returns
returns c =
    let v = c.view-view in
    figure-granted c.args.self (ap is_ok (its-judged v.result v.ensures c.sound_waits.ensures) ∙ its-soundness c.args.self)
    (ap not c.if-is_err.ensures.negation) c.granted.ensures (its-figure v.result v.ensures c.least_early.ensures)
