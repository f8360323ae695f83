use Rattle.desk_turns.proofs.TurnLaws.{taken-no, taken_yes}
use Rattle.desk_turns.proofs.taken.Goals as goal

pub returns-then-answer-ne0 : goal.returns-then-answer-ne0
returns-then-answer-ne0 c = taken-no _ _ _ _ _ c.if-answer-ne0.true c.said.ensures

pub returns : goal.returns
returns c = taken_yes _ _ _ _ _ c.if-answer-ne0.false
