use mathlib.Core.Path.{sym, ◌∙◌}
use Rattle.desk_answers.proofs.AnswerLaws.{refusal-some, refusal-none}
use Rattle.desk_answers.proofs.DriveLaws.{drive-no, drive-yes}
use Rattle.desk_answers.proofs.drive.answer_drive.Goals as goal

pub returns-in-Some : goal.returns-in-Some
returns-in-Some c = let r = refusal-some _ (sym c.in-Some.is ∙ c.refusal.ensures) in drive-no c.args.book.now _ c.make_sheet.ensures c.on_drive-on.ensures r.0 (rw r.1 at c.answer_refused.ensures)

pub returns : goal.returns
returns c = drive-yes c.args.book.now _ c.make_sheet.ensures c.on_drive-on.ensures (refusal-none _ (sym c.in_default.is ∙ c.refusal.ensures)) c.put_drive.ensures
