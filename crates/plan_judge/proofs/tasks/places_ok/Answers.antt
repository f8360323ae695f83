use Rattle.plan_judge.proofs.PlaceLaws.{places-turn, places-out}
use Rattle.plan_judge.proofs.tasks.places_ok.Goals as goal

pub loop-h-preserved : goal.loop-h-preserved
loop-h-preserved c = places-turn _ _ _ c.loop-h.invariant c.loop-h-test.true

pub returns : goal.returns
returns c = places-out _ _ _ c.loop-h.invariant c.loop-h-test.false
