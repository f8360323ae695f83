use native.Mathlib.Omega.{arith}
use Rattle.desk_answers.proofs.AnswerLaws.{one_line}
use borrow.Author.Rules.{rules}
use Rattle.desk_answers.proofs.answer_refused.Goals as goal

pub returns : goal.returns
returns c = one_line (search rules) (omega arith) c.put_refused.ensures
