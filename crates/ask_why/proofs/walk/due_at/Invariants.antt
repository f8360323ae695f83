use Rattle.plan.specs.Value.{at}
use Rattle.laws.specs.Picked.{latest}
use mathlib.Core.Path.{◌≡◌}
use Prim.Native.Nat.{◌≤◌}
use Rattle.ask_why.specs.Asked.{plan_by}
use Rattle.ask_why.proofs.walk.due_at.Given as goal

abbrev pub invariant-loop-j : goal.invariant-loop-j
invariant-loop-j l = (l.j ≤ l.tasks) × (l.last ≡ latest l.j ((plan_by l.tasks l.book l.waits).waits l.i) (at l.book.end))
