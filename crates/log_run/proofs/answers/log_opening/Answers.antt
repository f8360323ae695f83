use Rattle.log_run.proofs.AnswerLaws.{opening-sound, opening-few, opening-refused, opening-granted}
use borrow.Author.Rules.{rules}
use Rattle.log_run.proofs.answers.log_opening.Goals as goal

pub early_after-requires : goal.early_after-requires
early_after-requires c = λ z. opening-sound _ _ c.open_book.ensures z

pub put_opened-length-requires : goal.put_opened-length-requires
put_opened-length-requires c = (opening-few _ _ c.open_book.ensures c.if-answer-ne0.false, search rules)

pub returns-then-answer-ne0 : goal.returns-then-answer-ne0
returns-then-answer-ne0 c = opening-refused _ _ c.open_book.ensures c.if-answer-ne0.true (search rules) c.put_refused-length.ensures

pub returns-else-answer-ne0 : goal.returns-else-answer-ne0
returns-else-answer-ne0 c = opening-granted _ _ c.open_book.ensures c.if-answer-ne0.false c.early_after.ensures c.put_opened-length.ensures
