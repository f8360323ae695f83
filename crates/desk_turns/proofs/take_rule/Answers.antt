use Rattle.desk_turns.proofs.TurnLaws.{room-is, rule-full, rule-took}
use Rattle.desk_turns.proofs.take_rule.Goals as goal

pub returns-then-not-has_room : goal.returns-then-not-has_room
returns-then-not-has_room c = rule-full c.args.morning c.args.size c.has_room.ensures c.plan_of-plan.ensures c.if-not-has_room.true c.open_book.ensures c.full.ensures

pub taken-requires : goal.taken-requires
taken-requires c = room-is _ _ c.has_room.ensures c.if-not-has_room.false

pub returns : goal.returns
returns c = rule-took c.args.morning c.args.size c.has_room.ensures c.plan_of-plan.ensures c.if-not-has_room.false c.log_opening-length.ensures c.taken.ensures
