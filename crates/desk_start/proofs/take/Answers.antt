use Rattle.desk_start.proofs.StartLaws.{after-end, after-drop}
use Rattle.desk_start.proofs.take.Goals as goal

pub returns-in-End : goal.returns-in-End
returns-in-End c = rw c.in-End.is (after-end _ _ _ c.report_in_place.ensures)

pub returns-in-Drop : goal.returns-in-Drop
returns-in-Drop c = rw c.in-Drop.is (after-drop _ _ c.drop_in_place.ensures)
