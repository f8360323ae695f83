use Prim.Native.Nat.{ℕ, ◌<◌}
use mathlib.Core.Bool.{Bool, cond}
use mathlib.Core.Path.{◌≡◌}
use Rattle.book_view.specs.View.{laid}
use Rattle.school_judge.proofs.lay.marked.Given as goal

abbrev pub invariant-loop-i : goal.invariant-loop-i
invariant-loop-i g l =
    (p : ℕ → Bool) → ((i : ℕ) (r : Bool) → i < l.tasks → goal.F-post g l.test i r → r ≡ p i) → l.marks ≡ laid l.i (λ i. cond (p i) 1 0)
