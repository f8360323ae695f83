use Rattle.plan_judge.proofs.PlaceLaws.{PlacesRest}
use Rattle.plan_judge.proofs.tasks.places_ok.Given as goal

abbrev pub invariant-loop-h : goal.invariant-loop-h
invariant-loop-h l = PlacesRest l.holds l.h-index l.all
