use mathlib.Core.Path.{sym, ◌∙◌}
use Rattle.book.specs.Report.{reported_of}
use Rattle.ask_drives.proofs.Keep.{step-kept, other-kept}
use Rattle.ask_drives.proofs.Steps.{report-step}
use Rattle.ask_drives.proofs.report_kept.Goals as goal

pub returns-in_default : goal.returns-in_default
returns-in_default c =
    rw c.answer-both.ensures (other-kept c.args.both.now.result.book c.args.both.now.sheet (sym c.in_default.is ∙ c.seen_in.ensures) (reported_of c.args.both.now.result.book c.args.task c.args.tick))

pub returns : goal.returns
returns c =
    let book = c.args.both.now.result.book in
    step-kept book c.args.both.now.sheet c.requires (reported_of book c.args.task c.args.tick) (report-step book c.args.task c.args.tick) (sym c.in-Ok.is ∙ c.seen_in.ensures) (sym c.report_in_place-answer.ensures) c.keep_sheet.ensures
