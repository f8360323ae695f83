use Rattle.desk_start.proofs.StartLaws.{way-refused, way-stops, way-goes}
use Rattle.desk_start.proofs.way_of.Goals as goal

-- `way_of` meets its contract.
pub returns-then-code-ne0 : goal.returns-then-code-ne0
returns-then-code-ne0 c = way-refused _ _ c.if-code-ne0.true

pub returns-then-stops : goal.returns-then-stops
returns-then-stops c = way-stops _ _ c.if-code-ne0.false c.if-stops.true

pub returns : goal.returns
returns c = way-goes _ _ c.if-code-ne0.false c.if-stops.false
