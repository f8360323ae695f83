-- Tests over the items of a list.
use Rattle.std.specs.Prelude.{ℕ, suc, List, [], ◌∷◌, Bool, true, false, cond, ◌&&◌, ◌||◌, eqb, ltb}

module _ {A : Type 0} (p : A → Bool) where
  -- p holds of every item
  unfoldable pub all_of : List A → Bool
  all_of [] = true
  all_of (x ∷ l) = p x && all_of l

  -- p holds of some item
  unfoldable pub any_of : List A → Bool
  any_of [] = false
  any_of (x ∷ l) = p x || any_of l

  -- the place of the first item of which p does not hold, or the length
  unfoldable pub first_not : List A → ℕ
  first_not [] = 0
  first_not (x ∷ l) = cond (p x) (suc (first_not l)) 0

-- each key is above the one before
unfoldable pub rising : (ℕ → ℕ) → List ℕ → Bool
rising key [] = true
rising key (x ∷ []) = true
rising key (x ∷ y ∷ l) = ltb (key x) (key y) && rising key (y ∷ l)

-- two texts have the same bytes
unfoldable pub same : List ℕ → List ℕ → Bool
same [] [] = true
same [] (b ∷ t) = false
same (a ∷ s) [] = false
same (a ∷ s) (b ∷ t) = eqb a b && same s t
