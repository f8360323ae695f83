use mathlib.Core.Path.{sym, ◌∙◌}
use Rattle.book.specs.Drop.{dropped_of}
use Rattle.ask_drives.proofs.Keep.{step-kept, other-kept}
use Rattle.ask_drives.proofs.Steps.{drop-step}
use Rattle.ask_drives.proofs.drop.drop_kept.Goals as goal

pub returns-in_default : goal.returns-in_default
returns-in_default c =
    rw c.answer-both.ensures (other-kept c.args.both.now.result.book c.args.both.now.sheet (sym c.in_default.is ∙ c.seen_in.ensures) (dropped_of c.args.both.now.result.book c.args.task))

pub returns : goal.returns
returns c =
    let book = c.args.both.now.result.book in
    step-kept book c.args.both.now.sheet c.requires (dropped_of book c.args.task) (drop-step book c.args.task) (sym c.in-Ok.is ∙ c.seen_in.ensures) (sym c.drop_in_place-answer.ensures) c.keep_sheet.ensures
