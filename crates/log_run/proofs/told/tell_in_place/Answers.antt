use mathlib.Core.Path.{sym}
use Rattle.log_run.proofs.ReadLaws.{said-end, said-drop, said-refused}
use Rattle.log_run.proofs.ToldLaws.{tell-end, tell-drop, tell-refused}
use Rattle.log_run.proofs.BookLaws.{report-stays, drop-stays}
use Rattle.log_run.proofs.told.tell_in_place.Goals as goal

pub show-requires : goal.show-requires
show-requires c = report-stays _ _ _ (sym c.report_in_place-answer.ensures)

pub show-requires-in-Ok-Drop : goal.show-requires-in-Ok-Drop
show-requires-in-Ok-Drop c = drop-stays _ _ (sym c.drop_in_place-answer.ensures)

pub returns-in-Ok-End : goal.returns-in-Ok-End
returns-in-Ok-End c =
    tell-end _ _ (said-end c.in-Ok-End.is (rw c.in-Ok-End.is at c.in-Ok-End.field-0-is)) (sym c.report_in_place-answer.ensures) c.show.ensures

pub returns-in-Ok-Drop : goal.returns-in-Ok-Drop
returns-in-Ok-Drop c =
    tell-drop _ _ (said-drop c.in-Ok-Drop.is (rw c.in-Ok-Drop.is at c.in-Ok-Drop.field-0-is)) (sym c.drop_in_place-answer.ensures) c.show-in-Ok-Drop.ensures

pub returns-in-Err : goal.returns-in-Err
returns-in-Err c = tell-refused _ _ (said-refused c.in-Err.is) c.refused-told.ensures
