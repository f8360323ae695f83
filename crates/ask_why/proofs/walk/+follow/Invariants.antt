-- The planned start falls at each call.
use Rattle.plan.specs.Value.{at}
use Rattle.ask_why.proofs.walk.+follow.Given as goal

-- the planned start of the task
abbrev pub decreases-follow : goal.decreases-follow
decreases-follow l = at l.book.now.begin l.i
