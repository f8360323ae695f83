use mathlib.Core.Path.{refl}
use Rattle.log_read.proofs.SaidLaws.{said-unsaid, said-chosen, said-malformed}
use Rattle.desk_start.proofs.StartLaws.{walked-unsaid, walked-chosen, walked-malformed}
use Rattle.desk_start.proofs.walk_text.Goals as goal

pub returns-in-Ok-Unsaid : goal.returns-in-Ok-Unsaid
returns-in-Ok-Unsaid c =
    walked-unsaid _ c.args.text.now c.choose.ensures (said-unsaid c.in-Ok-Unsaid.is c.in-Ok-Unsaid.field-0-is) c.opened.ensures c.walk.ensures

pub returns-in-Ok-Chosen : goal.returns-in-Ok-Chosen
returns-in-Ok-Chosen c =
    walked-chosen _ c.args.text.now c.choose.ensures (said-chosen c.in-Ok-Chosen.is c.in-Ok-Chosen.field-0-is) c.opened-in-Ok-Chosen.ensures
    c.part_after.ensures c.walk-in-Ok-Chosen.ensures

pub returns-in-Err : goal.returns-in-Err
returns-in-Err c = walked-malformed _ c.args.text.now c.choose.ensures (said-malformed c.in-Err.is) c.opened-in-Err.ensures refl
