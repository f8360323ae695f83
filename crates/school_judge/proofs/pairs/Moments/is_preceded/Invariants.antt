use lib.Dec.{ltb}
use mathlib.Core.Path.{◌≡◌}
use mathlib.Core.Bool.{◌&&◌}
use Rattle.plan.specs.Value.{at}
use Rattle.laws.specs.Every.{any}
use Rattle.laws.specs.Bits.{has}
use Rattle.school_judge.proofs.pairs.Moments.is_preceded.Given as goal

abbrev pub invariant-loop-i : goal.invariant-loop-i
invariant-loop-i l = l.some ≡ any l.i (λ k. has (at l.self.waits.now k) l.j && ltb (at l.self.start.now k) l.tick)
