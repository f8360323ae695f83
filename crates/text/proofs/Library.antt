-- Our definitions on lists are those by which the library answers.
use Prim.Native.Nat.{ℕ, ◌≤◌}
use mathlib.Core.Path.{◌≡◌, refl, ap, sym, ◌∙◌}
use mathlib.Core.Bool.{Bool, ◌&&◌}
use mathlib.Core.List.{List, [], ◌∷◌}
use native.Mathlib.Omega.{arith}
use lib.ListN.{length}
use lib.Dec.{eqb}
use Rattle.std.specs.Cmp.Lexicographic.{pointwise}
use Rattle.std.specs.Prelude.{Option, None, Some}
use Rattle.std.specs.Option.{unwrap_or}
use Rattle.std.specs.List.{list_all, position, position_or_len}
use Rattle.std.proofs.lemmas.List.Recursion.{is_position_or_len}
use borrow.Author.Tests.{le-ltb, lt-ltb}
use Rattle.laws.proofs.Cases.{by_bool, by_le}
use Rattle.laws.proofs.Split.{index-le}
use Rattle.laws.specs.Lists.{all_of, same}
use Rattle.laws.specs.Split.{index_of}

-- the place of the first c, or the length
pub index-is : (c : ℕ) (s : List ℕ) → index_of c s ≡ position_or_len (λ b. eqb b c) s
unfolding index_of
index-is c s = is_position_or_len (index_of c) (λ b. eqb b c) refl (λ x xs. by_bool (eqb x c) (λ e. rw e) (λ e. rw e (omega arith))) s

pub found-is : (c : ℕ) (s : List ℕ) (r : Option ℕ) → r ≡ position (λ b. eqb b c) s → {n : ℕ} → n ≡ unwrap_or r (length s) → n ≡ index_of c s
found-is c s r e q =
    by_le (length s) (index_of c s)
    (λ h.
    let z : position (λ b. eqb b c) s ≡ None = rw (← index-is c s, le-ltb (index_of c s) (length s) h) in
    rw (e, z) at q ∙ sym (le-antisym h))
    (λ h. let z : position (λ b. eqb b c) s ≡ Some (index_of c s) = rw (← index-is c s, lt-ltb (index_of c s) (length s) h) in rw (e, z) at q)
  where
    le-antisym : length s ≤ index_of c s → index_of c s ≡ length s
    le-antisym h = omega (arith, index-le c s)

-- a test of every item
pub all-is : {A : Type 0} (p : A → Bool) (l : List A) → list_all p l ≡ all_of p l
unfolding all_of
all-is p [] = refl
all-is p (x ∷ l) = ap (λ (b : Bool). p x && b) (all-is p l)

-- the bytes of two texts, one by one
pub same-is : (s t : List ℕ) → pointwise eqb s t ≡ same s t
unfolding same
same-is [] [] = refl
same-is [] (b ∷ t) = refl
same-is (a ∷ s) [] = refl
same-is (a ∷ s) (b ∷ t) = ap (λ (q : Bool). eqb a b && q) (same-is s t)
