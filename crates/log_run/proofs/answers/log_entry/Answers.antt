use Rattle.log_run.proofs.ReportLaws.{told_names}
use Rattle.log_run.proofs.AnswerLaws.{entry-logged}
use borrow.Author.Rules.{rules}
use Rattle.log_run.proofs.answers.log_entry.Goals as goal

pub put_told-length-requires : goal.put_told-length-requires
put_told-length-requires c = (search rules, told_names _ _ _ c.tell_entry-told.ensures)

pub returns : goal.returns
returns c = entry-logged _ _ _ c.tell_entry-told.ensures c.put_told-length.ensures
