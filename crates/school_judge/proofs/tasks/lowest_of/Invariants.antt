use Prim.Native.Nat.{ℕ, ◌<◌}
use mathlib.Core.Bool.{Bool}
use mathlib.Core.Path.{◌≡◌}
use Rattle.theory.specs.Times.{lowest}
use Rattle.theory.proofs.Lowest.{lowest_from}
use Rattle.school_judge.proofs.tasks.lowest_of.Given as goal

abbrev pub invariant-loop-i : goal.invariant-loop-i
invariant-loop-i g l =
    (p : ℕ → Bool) → ((i : ℕ) (r : Bool) → i < l.tasks → goal.F-post g l.test i r → r ≡ p i) → lowest_from l.i l.tasks p ≡ lowest l.tasks p
