use Rattle.year_rules.proofs.BoundTests.{bounds-is}
use Rattle.year_rules.proofs.are_in_bounds.Goals as goal

pub returns : goal.returns
returns c = bounds-is _ c.from-accepted.ensures c.from.ensures c.ended_on_all-ended.ensures c.are_boards_ok-boards.ensures
