use Rattle.plan.specs.Value.{at}
use Rattle.laws.specs.Scan.{scan_to}
use lib.Dec.{eqb}
use mathlib.Core.Bool.{◌&&◌}
use mathlib.Core.Path.{◌≡◌}
use Prim.Native.Nat.{◌≤◌}
use Rattle.ask_why.specs.Asked.{plan_by}
use Rattle.ask_why.proofs.walk.lowest_at.Given as goal

abbrev pub invariant-loop-j : goal.invariant-loop-j
invariant-loop-j l =
    (l.j ≤ l.tasks) × (scan_to (λ k. (plan_by l.tasks l.book l.waits).waits l.i k && eqb (at l.book.end k) l.due) l.tasks (λ k. k) l.j l.tasks ≡ scan_to (λ k. (plan_by l.tasks l.book l.waits).waits l.i k && eqb (at l.book.end k) l.due) l.tasks (λ k. k) 0 l.tasks)
