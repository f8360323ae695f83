-- A text put together again at a separator, and a list from its places.
use Prim.Native.Nat.{ℕ, zero, suc, ◌<◌}
use mathlib.Core.List.{List, [], ◌∷◌, ◌++◌}
use mathlib.Core.Bool.{Bool, true, false}
use mathlib.Core.Path.{◌≡◌, refl, ap, ◌∙◌}
use lib.ListN.{length, get_or}
use lib.Dec.{eqb}
use native.Mathlib.Omega.{arith}
use borrow.Author.Tests.{eqb-true}
use Rattle.laws.specs.Split.{index_of, before, after}

-- what stands before the first c, c, and what stands after it
pub seam : (c : ℕ) (s : List ℕ) → index_of c s < length s → before c s ++ (c ∷ after c s) ≡ s
unfolding index_of
seam c [] h = absurd (omega arith)
seam c (b ∷ s) h = go (λ g. seam c s g) (eqb b c) refl
  where
    go :
        (index_of c s < length s → before c s ++ (c ∷ after c s) ≡ s) → (t : Bool) → eqb b c ≡ t
        → before c (b ∷ s) ++ (c ∷ after c (b ∷ s)) ≡ b ∷ s
    go ih true e = let q : b ≡ c = eqb-true b c e in rw (e, q)
    go ih false e = let h' = rw e at h in rw e (ap (λ (r : List ℕ). b ∷ r) (ih (omega arith)))

module _ {A : Type 0} where
  -- f i, f (i + 1), .., n of them
  abbrev pub places : (ℕ → A) → ℕ → ℕ → List A
  places f i zero = []
  places f i (suc n) = f i ∷ places f (suc i) n

  places-next : (l : List A) (x d : A) (i n : ℕ) → places (λ j. get_or (x ∷ l) j d) (suc i) n ≡ places (λ j. get_or l j d) i n
  places-next l x d i zero = refl
  places-next l x d i (suc n) = ap (λ (r : List A). get_or l i d ∷ r) (places-next l x d (suc i) n)

  -- a list is its places
  pub places-own : (l : List A) (d : A) (n : ℕ) → length l ≡ n → places (λ i. get_or l i d) 0 n ≡ l
  places-own [] d zero e = refl
  places-own [] d (suc n) e = absurd (omega arith)
  places-own (x ∷ l) d zero e = absurd (omega arith)
  places-own (x ∷ l) d (suc n) e =
      ap (λ (r : List A). x ∷ r) (places-next l x d 0 n ∙ places-own l d n (omega arith))
