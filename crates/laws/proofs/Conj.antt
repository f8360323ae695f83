-- Tests that hold together, taken apart by their place.
use Prim.Native.Nat.{ℕ, zero, suc, ◌<◌}
use mathlib.Core.List.{List, [], ◌∷◌}
use mathlib.Core.Bool.{Bool, true, ◌&&◌}
use mathlib.Core.Path.{◌≡◌}
use lib.ListN.{length, get_or}
use native.Mathlib.Omega.{arith}
use Rattle.laws.proofs.Cases.{and_l, and_r}

abbrev pub conj : List Bool → Bool
conj [] = true
conj (a ∷ []) = a
conj (a ∷ b ∷ l) = a && conj (b ∷ l)

pub conj-at : (l : List Bool) → conj l ≡ true → (i : ℕ) → i < length l → get_or l i true ≡ true
conj-at [] h i k = absurd (omega arith)
conj-at (a ∷ []) h zero k = h
conj-at (a ∷ []) h (suc i) k = absurd (omega arith)
conj-at (a ∷ b ∷ l) h zero k = and_l a (conj (b ∷ l)) h
conj-at (a ∷ b ∷ l) h (suc i) k = conj-at (b ∷ l) (and_r a (conj (b ∷ l)) h) i (omega arith)
