use Rattle.desk_turns.proofs.TurnLaws.{room-none, room-some}
use Rattle.desk_turns.proofs.has_room.Goals as goal

-- `has_room` meets its contract without the sum.
pub returns-then-length-ge-TEXT_MOST : goal.returns-then-length-ge-TEXT_MOST
returns-then-length-ge-TEXT_MOST c = room-none _ _ c.if-length-ge-TEXT_MOST.true

pub returns : goal.returns
returns c = room-some _ _ c.if-length-ge-TEXT_MOST.false
