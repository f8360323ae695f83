-- Tests over the items of a list, each turn by turn at a place i of the list.
use Prim.Native.Nat.{ℕ, zero, suc, ◌+◌, ◌*◌, ◌<◌, ◌≤◌}
use mathlib.Core.List.{List, [], ◌∷◌, ◌++◌}
use mathlib.Core.Bool.{Bool, true, false, ◌&&◌, ◌||◌}
use mathlib.Core.Path.{◌≡◌, refl, sym, ap, ◌∙◌}
use lib.ListN.{length, get_or, set, take, drop, replicate, drop_of_length-le}
use lib.Seq.{sets, drop-cons}
use lib.Dec.{eqb}
use borrow.Author.Tests.{eqb-true, eq-eqb}
use native.Mathlib.Omega.{arith}
use native.Mathlib.Numerals.{add-one}
use Rattle.laws.specs.Each.{rows}
use Rattle.laws.specs.Lists.{all_of, any_of, first_not, same}
use Rattle.laws.proofs.Cases.{and_l, and_r, and-of, or-false, true-false}

module _ {A : Type 0} (p : A → Bool) where
  module _ (l : List A) (i : ℕ) (d : A) where
    pub all-turn : i < length l → all_of p (drop i l) ≡ (p (get_or l i d) && all_of p (drop (i + 1) l))
    unfolding all_of
    all-turn h = rw (add-one, drop-cons l i d)

    pub any-of-turn : i < length l → any_of p (drop i l) ≡ (p (get_or l i d) || any_of p (drop (i + 1) l))
    unfolding any_of
    any-of-turn h = rw (add-one, drop-cons l i d)

    -- the places passed, and the first of which p does not hold from there on
    pub first-stop : i < length l → p (get_or l i d) ≡ false → i + first_not p (drop i l) ≡ first_not p l → i ≡ first_not p l
    unfolding first_not
    first-stop h e q = let z : first_not p (drop i l) ≡ 0 = rw (drop-cons l i d, e) in omega (arith, z, q)

    pub first_next :
        i < length l → p (get_or l i d) ≡ true → i + first_not p (drop i l) ≡ first_not p l
        → i + 1 + first_not p (drop (i + 1) l) ≡ first_not p l
    unfolding first_not
    first_next h e q =
        let z : first_not p (drop i l) ≡ suc (first_not p (drop (i + 1) l)) = rw (add-one, drop-cons l i d, e) in omega (arith, z, q)

  pub first-end : (l : List A) (i : ℕ) → length l ≤ i → i + first_not p (drop i l) ≡ first_not p l → i ≡ first_not p l
  unfolding first_not
  first-end l i h q = let z : first_not p (drop i l) ≡ 0 = rw (drop_of_length-le l h) in omega (arith, z, q)

  pub first-all : (l : List A) → all_of p l ≡ true → first_not p l ≡ length l
  unfolding all_of first_not
  first-all [] h = refl
  first-all (x ∷ l) h = rw (and_l (p x) (all_of p l) h) (ap suc (first-all l (and_r (p x) (all_of p l) h)))

  pub all_end : (l : List A) (i : ℕ) → length l ≤ i → all_of p (drop i l) ≡ true
  unfolding all_of
  all_end l i h = rw (drop_of_length-le l h)

  pub any-of-end : (l : List A) (i : ℕ) → length l ≤ i → any_of p (drop i l) ≡ false
  unfolding any_of
  any-of-end l i h = rw (drop_of_length-le l h)

  -- gathered to the list's end: what was seen so far, or some item of the rest
  module _ (l : List A) (i : ℕ) (seen : Bool) {x : Bool} (q : (seen || any_of p (drop i l)) ≡ x) where
    pub gather-turn : (d : A) → i < length l → ((p (get_or l i d) || seen) || any_of p (drop (i + 1) l)) ≡ x
    gather-turn d h =
        swap (p (get_or l i d)) seen (any_of p (drop (i + 1) l)) ∙ ap (λ (b : Bool). seen || b) (sym (any-of-turn l i d h)) ∙ q
      where
        swap : (a b c : Bool) → ((a || b) || c) ≡ (b || (a || c))
        swap true true c = refl
        swap true false c = refl
        swap false b c = refl

    pub gather-end : length l ≤ i → seen ≡ x
    gather-end h = sym (or-false seen) ∙ ap (λ (b : Bool). seen || b) (sym (any-of-end l i h)) ∙ q

  pub all-at : (l : List A) → all_of p l ≡ true → (i : ℕ) (d : A) → i < length l → p (get_or l i d) ≡ true
  unfolding all_of
  all-at [] h i d k = absurd (omega arith)
  all-at (x ∷ l) h zero d k = and_l (p x) (all_of p l) h
  all-at (x ∷ l) h (suc i) d k = all-at l (and_r (p x) (all_of p l) h) i d (omega arith)

  pub all-of : (l : List A) (d : A) → ((i : ℕ) → i < length l → p (get_or l i d) ≡ true) → all_of p l ≡ true
  unfolding all_of
  all-of [] d f = refl
  all-of (x ∷ l) d f = and-of (f 0 (omega arith)) (all-of l d (λ i h. f (suc i) (omega arith)))

  pub all_drop : (n : ℕ) (l : List A) → all_of p l ≡ true → all_of p (drop n l) ≡ true
  unfolding all_of
  all_drop zero l h = h
  all_drop (suc n) [] h = refl
  all_drop (suc n) (x ∷ l) h = all_drop n l (and_r (p x) (all_of p l) h)

  pub all_take : (n : ℕ) (l : List A) → all_of p l ≡ true → all_of p (take n l) ≡ true
  unfolding all_of
  all_take zero l h = refl
  all_take (suc n) [] h = refl
  all_take (suc n) (x ∷ l) h = and-of (and_l (p x) (all_of p l) h) (all_take n l (and_r (p x) (all_of p l) h))

  -- stores of what p holds of
  all_set : (l : List A) (i : ℕ) (a : A) → all_of p l ≡ true → p a ≡ true → all_of p (set l i a) ≡ true
  unfolding all_of
  all_set [] i a h k = refl
  all_set (x ∷ l) zero a h k = and-of k (and_r (p x) (all_of p l) h)
  all_set (x ∷ l) (suc i) a h k = and-of (and_l (p x) (all_of p l) h) (all_set l i a (and_r (p x) (all_of p l) h) k)

  all-sets : (l : List A) (i : ℕ) (vs : List A) → all_of p l ≡ true → all_of p vs ≡ true → all_of p (sets l i vs) ≡ true
  unfolding all_of
  all-sets l i [] h k = h
  all-sets l i (a ∷ vs) h k =
      all-sets (set l i a) (suc i) vs (all_set l i a h (and_l (p a) (all_of p vs) k)) (and_r (p a) (all_of p vs) k)

  pub all-rows :
      (width n : ℕ) (f : ℕ → List A) (l : List A) → ((k : ℕ) → k < n → all_of p (f k) ≡ true) → all_of p l ≡ true
      → all_of p (rows width n f l) ≡ true
  unfolding rows
  all-rows width zero f l h z = z
  all-rows width (suc n) f l h z =
      all-sets (rows width n f l) (width * n) (f n) (all-rows width n f l (λ k b. h k (omega arith)) z) (h n (omega arith))

  pub all_same : (n : ℕ) (a : A) → p a ≡ true → all_of p (replicate n a) ≡ true
  unfolding all_of
  all_same zero a h = refl
  all_same (suc n) a h = and-of h (all_same n a h)

  pub all_append : (k l : List A) → all_of p (k ++ l) ≡ (all_of p k && all_of p l)
  unfolding all_of
  all_append [] l = refl
  all_append (x ∷ k) l = rw (all_append k l) (assoc (p x) (all_of p k) (all_of p l))
    where
      assoc : (a b c : Bool) → (a && (b && c)) ≡ ((a && b) && c)
      assoc true b c = refl
      assoc false b c = refl

  pub any_append : (k l : List A) → any_of p (k ++ l) ≡ (any_of p k || any_of p l)
  unfolding any_of
  any_append [] l = refl
  any_append (x ∷ k) l = rw (any_append k l) (assoc (p x) (any_of p k) (any_of p l))
    where
      assoc : (a b c : Bool) → (a || (b || c)) ≡ ((a || b) || c)
      assoc true b c = refl
      assoc false b c = refl

pub same_refl : (s : List ℕ) → same s s ≡ true
unfolding same
same_refl [] = refl
same_refl (a ∷ s) = and-of (eq-eqb a a refl) (same_refl s)

pub same-eq : (s t : List ℕ) → same s t ≡ true → s ≡ t
unfolding same
same-eq [] [] e = refl
same-eq [] (b ∷ t) e = true-false e refl
same-eq (a ∷ s) [] e = true-false e refl
same-eq (a ∷ s) (b ∷ t) e =
    let x : a ≡ b = eqb-true a b (and_l (eqb a b) (same s t) e) in
    let y : s ≡ t = same-eq s t (and_r (eqb a b) (same s t) e) in
    cc
