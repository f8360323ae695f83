-- The greatest and the least of figures are figures, and no figure lies past them.
use Prim.Native.Nat.{ℕ, ◌≤◌, ◌<◌, max, min}
use mathlib.Core.Path.{◌≡◌, refl, sym}
use mathlib.Core.Bool.{true}
use mathlib.Core.List.{List, [], ◌∷◌}
use native.Mathlib.Omega.{arith}
use lib.Dec.{eqb, leb}
use lib.ListN.{length}
use borrow.Author.Tests.{eq-eqb, le-leb}
use Rattle.laws.specs.Lists.{all_of, any_of}
use Rattle.laws.proofs.Cases.{by_le, and-of, or_l, or_r}
use Rattle.year_rules.specs.Figures.{best_of}

pub below-greatest : (m : ℕ) (l : List ℕ) → best_of max l ≤ m → all_of (λ x. leb x m) l ≡ true
unfolding best_of all_of
below-greatest m [] h = refl
below-greatest m (x ∷ []) h = and-of (le-leb x m h) refl
below-greatest m (x ∷ y ∷ l) h = and-of (le-leb x m (omega arith)) (below-greatest m (y ∷ l) (omega arith))

pub above-least : (m : ℕ) (l : List ℕ) → m ≤ best_of min l → all_of (λ x. leb m x) l ≡ true
unfolding best_of all_of
above-least m [] h = refl
above-least m (x ∷ []) h = and-of (le-leb m x h) refl
above-least m (x ∷ y ∷ l) h = and-of (le-leb m x (omega arith)) (above-least m (y ∷ l) (omega arith))

pub one-is-greatest : (v : ℕ) (l : List ℕ) → v ≡ best_of max l → 0 < length l → any_of (λ x. eqb x v) l ≡ true
unfolding best_of any_of
one-is-greatest v [] e h = absurd (omega arith)
one-is-greatest v (x ∷ []) e h = or_l _ (eq-eqb x v (sym e))
one-is-greatest v (x ∷ y ∷ l) e h =
    by_le (best_of max (y ∷ l)) x
    (λ k. or_l _ (eq-eqb x v (omega arith)))
    (λ k. or_r (eqb x v) (one-is-greatest v (y ∷ l) (omega arith) (omega arith)))

pub one-is-least : (v : ℕ) (l : List ℕ) → v ≡ best_of min l → 0 < length l → any_of (λ x. eqb x v) l ≡ true
unfolding best_of any_of
one-is-least v [] e h = absurd (omega arith)
one-is-least v (x ∷ []) e h = or_l _ (eq-eqb x v (sym e))
one-is-least v (x ∷ y ∷ l) e h =
    by_le x (best_of min (y ∷ l))
    (λ k. or_l _ (eq-eqb x v (omega arith)))
    (λ k. or_r (eqb x v) (one-is-least v (y ∷ l) (omega arith) (omega arith)))
