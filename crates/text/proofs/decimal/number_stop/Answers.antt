use mathlib.Core.Path.{◌∙◌}
use Rattle.text.proofs.Spell.{stop-at}
use Rattle.text.proofs.decimal.number_stop.Goals as goal

pub returns-in-Ok : goal.returns-in-Ok
returns-in-Ok c = stop-at _ _ c.in-Ok.ensures

pub returns-in-Err : goal.returns-in-Err
returns-in-Err c = c.stop.ensures ∙ stop-at _ _ c.in-Err.ensures
