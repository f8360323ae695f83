-- The array is always long enough for `take_line`, so that its front is the whole answer.
use Rattle.std.proofs.Common.{rules}
use Rattle.desk.proofs.DeskLaws.{turn-within, turn-printed}
use Rattle.desk.proofs.put_turn.Goals as goal

pub returns-clause-prefix_len : goal.returns-clause-prefix_len
returns-clause-prefix_len c = turn-within (search rules) c.take_line.ensures

pub returns-clause-turn_is : goal.returns-clause-turn_is
returns-clause-turn_is c = turn-printed (search rules) c.take_line.ensures
