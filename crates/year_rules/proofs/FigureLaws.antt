-- Figures added up and the best of them, one more and list by list; how many there are and how large they can be.
use Prim.Native.Nat.{ℕ, suc, ◌+◌, ◌*◌, ◌≤◌, ◌<◌, max, min}
use mathlib.Core.Path.{◌≡◌, refl, sym, ap, ◌∙◌}
use mathlib.Core.Bool.{true, cond}
use mathlib.Core.List.{List, [], ◌∷◌, ◌++◌}
use native.Mathlib.Omega.{arith}
use native.Mathlib.Nat.{mul-suc}
use native.Mathlib.Numerals.{add-one}
use lib.Dec.{eqb, leb}
use lib.ListN.{length, drop, get_or, drop_of_length-le}
use lib.Seq.{drop-cons}
use borrow.Author.Tests.{eq-eqb, ne_eqb, leb-true}
use Rattle.laws.specs.Lists.{all_of}
use Rattle.laws.proofs.Cases.{by-eq, and_l, and_r}
use Rattle.year_rules.specs.Figures.{sum_of, best_of, best_after}

-- what max and min have in common
pub record Picks (pick : ℕ → ℕ → ℕ) : Type 0 where
  pub comm : (a b : ℕ) → pick a b ≡ pick b a
  pub assoc : (a b c : ℕ) → pick (pick a b) c ≡ pick a (pick b c)
  pub bound : (a b m : ℕ) → a ≤ m → b ≤ m → pick a b ≤ m

pub max-picks : Picks max
max-picks = record { comm = λ a b. omega arith; assoc = λ a b c. omega arith; bound = λ a b m p q. omega arith }

pub min-picks : Picks min
min-picks = record { comm = λ a b. omega arith; assoc = λ a b c. omega arith; bound = λ a b m p q. omega arith }

-- a list added up from a place on
pub sum-turn : (l : List ℕ) (i : ℕ) → i < length l → sum_of (drop i l) ≡ get_or l i 0 + sum_of (drop (i + 1) l)
unfolding sum_of
sum-turn l i h = rw (add-one, drop-cons l i 0)

pub sum-end : (l : List ℕ) (i : ℕ) → length l ≤ i → sum_of (drop i l) ≡ 0
unfolding sum_of
sum-end l i h = rw (drop_of_length-le l h)

pub sum-append : (k l : List ℕ) → sum_of (k ++ l) ≡ sum_of k + sum_of l
unfolding sum_of
sum-append [] l = omega arith
sum-append (x ∷ k) l = rw (sum-append k l) (omega arith)

module _ (pick : ℕ → ℕ → ℕ) where
  pub after_none : (ended best : ℕ) → best_after pick ended best [] ≡ best
  unfolding best_after
  after_none ended best = refl

  after_first : (x : ℕ) (l : List ℕ) (ended best : ℕ) → ended ≡ 0 → best_after pick ended best (x ∷ l) ≡ best_of pick (x ∷ l)
  unfolding best_after
  after_first x l ended best z = rw (ne_eqb (suc (length l)) 0 (λ e. omega arith), eq-eqb ended 0 z)

  after_more :
      (x : ℕ) (l : List ℕ) (ended best : ℕ) → (ended ≡ 0 → ⊥) → best_after pick ended best (x ∷ l) ≡ pick best (best_of pick (x ∷ l))
  unfolding best_after
  after_more x l ended best s = rw (ne_eqb (suc (length l)) 0 (λ e. omega arith), ne_eqb ended 0 s)

  -- where some figure came before
  pub after-than :
      (ended best : ℕ) (l : List ℕ) → 0 < ended → best_after pick ended best l ≡ cond (eqb (length l) 0) best (pick best (best_of pick l))
  unfolding best_after
  after-than ended best l h = rw (ne_eqb ended 0 (λ e. omega arith))

  -- it looks only at how many figures there are, and the best of them
  pub after_same :
      (ended best : ℕ) (k l : List ℕ) → length k ≡ length l → best_of pick k ≡ best_of pick l → best_after pick ended best k ≡ best_after pick ended best l
  unfolding best_after
  after_same ended best k l n b = rw (n, b)

  best-one : (x : ℕ) → best_of pick (x ∷ []) ≡ x
  unfolding best_of
  best-one x = refl

  best-two : (x y : ℕ) (l : List ℕ) → best_of pick (x ∷ y ∷ l) ≡ pick x (best_of pick (y ∷ l))
  unfolding best_of
  best-two x y l = refl

  module _ (laws : Picks pick) where
    swapped : (a b c : ℕ) → pick a (pick b c) ≡ pick (pick a c) b
    swapped a b c = ap (pick a) (laws.comm b c) ∙ sym (laws.assoc a c b)

    pub best-next : (x : ℕ) (l : List ℕ) → best_of pick (x ∷ l) ≡ cond (eqb (length l) 0) x (pick (best_of pick l) x)
    best-next x [] = best-one x
    best-next x (y ∷ l) =
        best-two x y l ∙ laws.comm x (best_of pick (y ∷ l)) ∙ sym (rw (ne_eqb (suc (length l)) 0 (λ e. omega arith)))

    pub best-swap : (x y : ℕ) (l : List ℕ) → best_of pick (x ∷ y ∷ l) ≡ best_of pick (y ∷ x ∷ l)
    best-swap x y [] =
        best-two x y [] ∙ ap (pick x) (best-one y) ∙ laws.comm x y ∙ sym (best-two y x [] ∙ ap (pick y) (best-one x))
    best-swap x y (z ∷ l) =
        let b = best_of pick (z ∷ l) in
        best-two x y (z ∷ l) ∙ ap (pick x) (best-two y z l) ∙ sym (laws.assoc x y b)
        ∙ ap (λ (v : ℕ). pick v b) (laws.comm x y) ∙ laws.assoc y x b
        ∙ sym (best-two y x (z ∷ l) ∙ ap (pick y) (best-two x z l))

    -- one figure more: the first one replaces what stood there
    pub after_next :
        (ended best x : ℕ) (l : List ℕ)
        → best_after pick ended best (x ∷ l) ≡ cond (eqb (ended + length l) 0) x (pick (best_after pick ended best l) x)
    after_next ended best x [] =
        by-eq ended 0
        (λ z. after_first x [] ended best z ∙ best-one x ∙ (rw (eq-eqb (ended + 0) 0 (omega arith))))
        (λ s. after_more x [] ended best s ∙ ap (pick best) (best-one x)
        ∙ sym (rw (ne_eqb (ended + 0) 0 (λ e. s (omega arith)), after_none ended best)))
    after_next ended best x (y ∷ l) =
        by-eq ended 0
        (λ z. after_first x (y ∷ l) ended best z ∙ best-two x y l ∙ laws.comm x (best_of pick (y ∷ l))
        ∙ sym (rw (ne_eqb (ended + suc (length l)) 0 (λ e. omega arith), after_first y l ended best z)))
        (λ s. after_more x (y ∷ l) ended best s ∙ ap (pick best) (best-two x y l) ∙ swapped best x (best_of pick (y ∷ l))
        ∙ sym (rw (ne_eqb (ended + suc (length l)) 0 (λ e. omega arith), after_more y l ended best s)))

    -- the best so far is that of the list so far
    pub after-append : (k l : List ℕ) → best_after pick (length k) (best_of pick k) l ≡ best_of pick (k ++ l)
    after-append [] [] = after_none 0 (best_of pick [])
    after-append [] (y ∷ l) = after_first y l 0 (best_of pick []) refl
    after-append (x ∷ []) [] = after_none 1 (best_of pick (x ∷ []))
    after-append (x ∷ []) (y ∷ l) =
        after_more y l 1 (best_of pick (x ∷ [])) (λ e. omega arith) ∙ ap (λ (v : ℕ). pick v (best_of pick (y ∷ l))) (best-one x) ∙ sym (best-two x y l)
    after-append (x ∷ z ∷ k) [] =
        after_none _ _ ∙ best-two x z k ∙ ap (pick x) (sym (after_none _ _) ∙ after-append (z ∷ k) []) ∙ sym (best-two x z (k ++ []))
    after-append (x ∷ z ∷ k) (y ∷ l) =
        after_more y l (length (x ∷ z ∷ k)) _ (λ e. omega arith)
        ∙ ap (λ (v : ℕ). pick v (best_of pick (y ∷ l))) (best-two x z k)
        ∙ laws.assoc x (best_of pick (z ∷ k)) (best_of pick (y ∷ l))
        ∙ ap (pick x) (sym (after_more y l (length (z ∷ k)) _ (λ e. omega arith)) ∙ after-append (z ∷ k) (y ∷ l))
        ∙ sym (best-two x z (k ++ (y ∷ l)))

    pub best-bound : (m : ℕ) (l : List ℕ) → all_of (λ x. leb x m) l ≡ true → best_of pick l ≤ m
    unfolding best_of all_of
    best-bound m [] h = omega arith
    best-bound m (x ∷ []) h = leb-true x m (and_l (leb x m) true h)
    best-bound m (x ∷ y ∷ l) h =
        laws.bound x (best_of pick (y ∷ l)) m (leb-true x m (and_l (leb x m) (all_of (λ z. leb z m) (y ∷ l)) h))
        (best-bound m (y ∷ l) (and_r (leb x m) (all_of (λ z. leb z m) (y ∷ l)) h))

    pub after-bound :
        (ended best m : ℕ) (l : List ℕ) → best ≤ m → all_of (λ x. leb x m) l ≡ true → best_after pick ended best l ≤ m
    after-bound ended best m [] b h = rw (after_none ended best) b
    after-bound ended best m (y ∷ l) b h =
        let q = best-bound m (y ∷ l) h in
        by-eq ended 0
        (λ z. rw (after_first y l ended best z) q)
        (λ s. rw (after_more y l ended best s) (laws.bound best (best_of pick (y ∷ l)) m b q))

pub sum_bound : (m : ℕ) (l : List ℕ) → all_of (λ x. leb x m) l ≡ true → sum_of l ≤ m * length l
unfolding sum_of all_of
sum_bound m [] h = omega arith
sum_bound m (x ∷ l) h =
    let a = leb-true x m (and_l (leb x m) (all_of (λ z. leb z m) l) h) in
    let b = sum_bound m l (and_r (leb x m) (all_of (λ z. leb z m) l) h) in
    let c : m * suc (length l) ≡ m * length l + m = mul-suc m (length l) in
    rw c (omega arith)
