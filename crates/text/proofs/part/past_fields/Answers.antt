use Rattle.text.specs.Line.{TAB}
use Rattle.text.proofs.Parts.{skip-turn, skip-done}
use Rattle.text.proofs.part.past_fields.Goals as goal

pub loop-preserved : goal.loop-preserved
loop-preserved c = skip-turn TAB _ _ _ _ _ c.loop-test.true c.part_after-rest.ensures c.loop.invariant

pub returns : goal.returns
returns c = skip-done TAB _ _ _ _ c.loop-test.false c.loop.invariant
