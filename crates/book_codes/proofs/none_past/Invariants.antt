use Rattle.plan.specs.Value.{at}
use Rattle.laws.specs.Every.{every, implies}
use lib.Dec.{leb, eqb}
use mathlib.Core.Path.{◌≡◌}
use Prim.Native.Nat.{◌+◌, ◌-◌}
use Rattle.book_codes.proofs.none_past.Given as goal

abbrev pub invariant-loop-j : goal.invariant-loop-j
invariant-loop-j l = l.all ≡ every l.j (λ x. implies (eqb (at l.book.mark.now x) 1) (leb l.tick (at l.book.start.now x + (at l.book.plan.finish.now x - at l.book.plan.begin.now x))))
