-- What parting a list at a separator gives, and that parting and joining undo each other.
use Prim.Native.Nat.{ℕ, zero, suc, ◌+◌, ◌≤◌, ◌<◌}
use mathlib.Core.Path.{◌≡◌, refl, ap, ◌∙◌}
use mathlib.Core.Bool.{Bool, true, false, not, cond}
use mathlib.Core.List.{List, [], ◌∷◌, ◌++◌}
use native.Mathlib.Omega.{arith}
use native.Mathlib.Numerals.{add-one}
use lib.ListN.{length, drop, get_or, drop_of_length-le, length-drop}
use lib.Seq.{drop-cons}
use lib.Dec.{eqb}
use borrow.Author.Tests.{eqb-true, eq-eqb, not-true, ne_eqb}
use Rattle.laws.specs.Split.{index_of, before, after, skip_on, begin_of, cons_first, split_on, join_on}
use Rattle.laws.specs.Lists.{all_of}
use Rattle.laws.proofs.Cases.{by_bool, by_le, and_l, and_r}

-- c does not stand in s
abbrev pub free : ℕ → List ℕ → Bool
free c s = all_of (λ b. not (eqb b c)) s

pub index-le : (c : ℕ) (s : List ℕ) → index_of c s ≤ length s
unfolding index_of
index-le c [] = omega arith
index-le c (b ∷ s) =
    let r = index-le c s in by_bool (eqb b c) (λ e. rw e (omega arith)) (λ e. rw e (omega arith))

-- c stands at the place of the first c, and at none before it
pub index-found : (c : ℕ) (s : List ℕ) (d : ℕ) → index_of c s < length s → get_or s (index_of c s) d ≡ c
unfolding index_of
index-found c [] d h = absurd (omega arith)
index-found c (b ∷ s) d h =
    by_bool (eqb b c)
    (λ e. rw e (eqb-true b c e))
    (λ e. rw e (index-found c s d (let h' = rw e at h in omega arith)))

pub index-first : (c : ℕ) (s : List ℕ) (d j : ℕ) → j < index_of c s → get_or s j d ≡ c → ⊥
unfolding index_of
index-first c [] d j h e = omega arith
index-first c (b ∷ s) d zero h e = let h' = rw (eq-eqb b c e) at h in omega arith
index-first c (b ∷ s) d (suc j) h e =
    by_bool (eqb b c)
    (λ q. let h' = rw q at h in omega arith)
    (λ q. index-first c s d j (let h' = rw q at h in omega arith) e)

-- what stands before the first c, from a place i on
pub before_here : (c : ℕ) (s : List ℕ) (i : ℕ) → i < length s → get_or s i 0 ≡ c → before c (drop i s) ≡ []
unfolding index_of
before_here c s i h e = rw (drop-cons s i 0, eq-eqb (get_or s i 0) c e)

pub before-next :
    (c : ℕ) (s : List ℕ) (i : ℕ) → i < length s → (get_or s i 0 ≡ c → ⊥)
    → before c (drop i s) ≡ get_or s i 0 ∷ before c (drop (i + 1) s)
unfolding index_of
before-next c s i h n = rw (add-one, drop-cons s i 0, ne_eqb (get_or s i 0) c n)

pub before-end : (c : ℕ) (s : List ℕ) (i : ℕ) → length s ≤ i → before c (drop i s) ≡ []
unfolding index_of
before-end c s i h = rw (drop_of_length-le s h)

-- what is left after some parts, and where the next one begins
pub skip-le : (c n : ℕ) (s : List ℕ) → length (skip_on c n s) ≤ length s
unfolding skip_on
skip-le c zero s = omega arith
skip-le c (suc n) s = omega (arith, skip-le c n (after c s), length-drop (suc (index_of c s)) s)

pub begin-next :
    (c n : ℕ) (s : List ℕ) → index_of c s < length s → begin_of c s (suc n) ≡ index_of c s + 1 + begin_of c (after c s) n
unfolding skip_on
begin-next c n s h = omega (arith, skip-le c n (after c s), length-drop (suc (index_of c s)) s)

pub begin-first : (c : ℕ) (s : List ℕ) → begin_of c s 0 ≡ 0
unfolding skip_on
begin-first c s = omega arith

pub skip-suc : (c n : ℕ) (s : List ℕ) → skip_on c (suc n) s ≡ after c (skip_on c n s)
unfolding skip_on
skip-suc c zero s = refl
skip-suc c (suc n) s = skip-suc c n (after c s)

-- what is left grows shorter
pub skip-down : (c : ℕ) (s : List ℕ) (m n : ℕ) → m ≤ n → length (skip_on c n s) ≤ length (skip_on c m s)
unfolding skip_on
skip-down c s zero n h = skip-le c n s
skip-down c s (suc m) zero h = absurd (omega arith)
skip-down c s (suc m) (suc n) h = skip-down c (after c s) m n (omega arith)

-- one step of a split: at the first separator, and with none
pub split-found : (c : ℕ) (s : List ℕ) → index_of c s < length s → split_on c s ≡ before c s ∷ split_on c (after c s)
unfolding split_on index_of cons_first
split-found c [] h = absurd (omega arith)
split-found c (b ∷ s) h = go (λ g. split-found c s g) (eqb b c) refl
  where
    go :
        (index_of c s < length s → split_on c s ≡ before c s ∷ split_on c (after c s)) → (t : Bool) → eqb b c ≡ t
        → split_on c (b ∷ s) ≡ before c (b ∷ s) ∷ split_on c (after c (b ∷ s))
    go ih true e = rw e
    go ih false e = let h' = rw e at h in rw (e, ih (omega arith))

pub split-none : (c : ℕ) (s : List ℕ) → length s ≤ index_of c s → split_on c s ≡ s ∷ []
unfolding split_on index_of cons_first
split-none c [] h = refl
split-none c (b ∷ s) h = go (λ g. split-none c s g) (eqb b c) refl
  where
    go : (length s ≤ index_of c s → split_on c s ≡ s ∷ []) → (t : Bool) → eqb b c ≡ t → split_on c (b ∷ s) ≡ (b ∷ s) ∷ []
    go ih true e = let h' = rw e at h in absurd (omega arith)
    go ih false e = let h' = rw e at h in rw (e, ih (omega arith))

-- nothing is left after the last part
pub skip-beyond : (c : ℕ) (s : List ℕ) (n : ℕ) → length (split_on c s) ≤ n → length (skip_on c n s) ≡ 0
unfolding skip_on
skip-beyond c s zero h =
    by_le (length s) (index_of c s)
    (λ g. let e = ap length (split-none c s g) in absurd (omega (arith, e, h)))
    (λ g. let e = ap length (split-found c s g) in absurd (omega (arith, e, h)))
skip-beyond c s (suc n) h =
    by_le (length s) (index_of c s)
    (λ g. omega (arith, skip-le c n (after c s), length-drop (suc (index_of c s)) s))
    (λ g. let e = ap length (split-found c s g) in skip-beyond c (after c s) n (omega (arith, e, h)))

-- whatever is split joins to itself
data Parts (l : List (List ℕ)) : Type 0 where
  parts : (f : List ℕ) (fs : List (List ℕ)) → l ≡ f ∷ fs → Parts l

some-parts : (c : ℕ) (s : List ℕ) → Parts (split_on c s)
unfolding split_on cons_first
some-parts c [] = parts [] [] refl
some-parts c (b ∷ s) = go (some-parts c s) (eqb b c)
  where
    go : Parts (split_on c s) → (t : Bool) → Parts (cond t ([] ∷ split_on c s) (cons_first b (split_on c s)))
    go q true = parts [] (split_on c s) refl
    go (parts f fs e) false = parts (b ∷ f) fs (rw e)

join-head : (c b : ℕ) (f : List ℕ) (fs : List (List ℕ)) → join_on c ((b ∷ f) ∷ fs) ≡ b ∷ join_on c (f ∷ fs)
unfolding join_on
join-head c b f [] = refl
join-head c b f (g ∷ fs) = refl

pub join-split : (c : ℕ) (s : List ℕ) → join_on c (split_on c s) ≡ s
unfolding join_on split_on cons_first
join-split c [] = refl
join-split c (b ∷ s) = go (some-parts c s) (join-split c s) (eqb b c) refl
  where
    go : Parts (split_on c s) → join_on c (split_on c s) ≡ s → (t : Bool) → eqb b c ≡ t → join_on c (split_on c (b ∷ s)) ≡ b ∷ s
    go (parts f fs q) ih true e = let e' : b ≡ c = eqb-true b c e in let ih' = rw q at ih in rw (e, q, ih', e')
    go (parts f fs q) ih false e = let ih' = rw q at ih in rw (e, q, join-head, ih')

-- parts without the separator, joined, split into themselves
free-cons : (c b : ℕ) (f : List ℕ) → free c (b ∷ f) ≡ true → (eqb b c ≡ false) × (free c f ≡ true)
unfolding all_of
free-cons c b f h = (not-true _ (and_l (not (eqb b c)) (free c f) h), and_r (not (eqb b c)) (free c f) h)

pub split_one : (c : ℕ) (f : List ℕ) → free c f ≡ true → split_on c f ≡ f ∷ []
unfolding split_on cons_first
split_one c [] h = refl
split_one c (b ∷ f) h = let p = free-cons c b f h in rw (p.0, split_one c f p.1)

pub split-first : (c : ℕ) (f s : List ℕ) → free c f ≡ true → split_on c (f ++ (c ∷ s)) ≡ f ∷ split_on c s
unfolding split_on cons_first
split-first c [] s h = rw (eq-eqb c c refl)
split-first c (b ∷ f) s h = let p = free-cons c b f h in rw (p.0, split-first c f s p.1)

pub split-join :
    (c : ℕ) (f : List ℕ) (fs : List (List ℕ)) → all_of (free c) (f ∷ fs) ≡ true → split_on c (join_on c (f ∷ fs)) ≡ f ∷ fs
unfolding join_on all_of
split-join c f [] h = split_one c f (and_l (free c f) true h)
split-join c f (g ∷ fs) h =
    split-first c f (join_on c (g ∷ fs)) (and_l (free c f) (all_of (free c) (g ∷ fs)) h)
    ∙ ap (λ (l : List (List ℕ)). f ∷ l) (split-join c g fs (and_r (free c f) (all_of (free c) (g ∷ fs)) h))

-- the first separator of a part without it, and what follows
pub index-seam : (c : ℕ) (f s : List ℕ) → free c f ≡ true → index_of c (f ++ (c ∷ s)) ≡ length f
unfolding index_of
index-seam c [] s h = rw (eq-eqb c c refl)
index-seam c (b ∷ f) s h = let p = free-cons c b f h in rw p.0 (ap suc (index-seam c f s p.1))

pub before-seam : (c : ℕ) (f s : List ℕ) → free c f ≡ true → before c (f ++ (c ∷ s)) ≡ f
before-seam c f s h = rw (index-seam c f s h, lib.Seq.take-append_seam)

pub after-seam : (c : ℕ) (f s : List ℕ) → free c f ≡ true → after c (f ++ (c ∷ s)) ≡ s
after-seam c f s h =
    let e : suc (length f) ≡ length f + 1 = omega arith in rw (index-seam c f s h, e, lib.Seq.drop-append-add)
