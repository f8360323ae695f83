use Rattle.desk_turns.proofs.TurnLaws.{full-no, full-yes}
use Rattle.desk_turns.proofs.full.Goals as goal

pub returns-then-answer-ne0 : goal.returns-then-answer-ne0
returns-then-answer-ne0 c = full-no _ c.if-answer-ne0.true c.said.ensures c.answer_refused.ensures

pub returns : goal.returns
returns c = full-yes _ c.if-answer-ne0.false c.answer.ensures c.said-2.ensures c.answer_refused-2.ensures
