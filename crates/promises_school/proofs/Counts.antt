-- How many items of a list pass a test, and the first that does not, as facts about its places.
use Prim.Native.Nat.{ℕ, zero, suc, ◌+◌, ◌<◌}
use native.Mathlib.Omega.{arith}
use mathlib.Core.Path.{◌≡◌, refl, ap, ◌∙◌}
use mathlib.Core.Bool.{Bool, true, false}
use mathlib.Core.List.{List, [], ◌∷◌}
use lib.ListN.{length, get_or}
use Rattle.laws.proofs.Cases.{by_bool, true-false}
use Rattle.laws.specs.Lists.{all_of, first_not}
use Rattle.school.specs.Tasks.{how_many, first_of}
use Rattle.school.specs.Said.{LogLine}

module _ {A : Type 0} (p : A → Bool) (d : A) where
  -- an item fails, and none before it
  pub record Fails (l : List A) : Type 0 where
    pub below : first_not p l < length l
    pub fails : p (get_or l (first_not p l) d) ≡ false
    pub earlier : (j : ℕ) → j < first_not p l → p (get_or l j d) ≡ true

  pub first-fails : (l : List A) → all_of p l ≡ false → Fails l
  unfolding all_of first_not
  first-fails [] h = true-false refl h
  first-fails (x ∷ l) h =
      by_bool (p x)
      (λ t. later t (first-fails l (rw t at h)))
      (λ f.
      let z : first_not p (x ∷ l) ≡ 0 = rw f in
      record { below = omega (arith, z); fails = rw z f; earlier = λ j m. absurd (omega (arith, z)) })
    where
      later : p x ≡ true → Fails l → Fails (x ∷ l)
      later t r =
          let z : first_not p (x ∷ l) ≡ suc (first_not p l) = rw t in
          record { below = omega (arith, z, r.below); fails = rw z r.fails; earlier = λ j m. before j (omega (arith, z)) }
        where
          before : (j : ℕ) → j < suc (first_not p l) → p (get_or (x ∷ l) j d) ≡ true
          before zero m = t
          before (suc j) m = r.earlier j (omega arith)

module _ (p : LogLine → Bool) (d : LogLine) where
  -- at no place, at one, or at two
  pub data Counted (l : List LogLine) : Type 0 where
    none : how_many p l ≡ 0 → ((k : ℕ) → k < length l → p (get_or l k d) ≡ false) → Counted l
    one :
        how_many p l ≡ 1 → (k : ℕ) → k < length l → p (get_or l k d) ≡ true
        → ((j : ℕ) → j < length l → p (get_or l j d) ≡ true → j ≡ k) → first_of p l ≡ get_or l k d → Counted l
    more :
        1 < how_many p l → (j k : ℕ) → j < k → k < length l → p (get_or l j d) ≡ true → p (get_or l k d) ≡ true → Counted l

  module _ (x : LogLine) (l : List LogLine) where
    pass-many : p x ≡ true → how_many p (x ∷ l) ≡ 1 + how_many p l
    unfolding how_many
    pass-many t = rw t

    pass-first : p x ≡ true → first_of p (x ∷ l) ≡ x
    unfolding first_of
    pass-first t = rw t

    fail-many : p x ≡ false → how_many p (x ∷ l) ≡ how_many p l
    unfolding how_many
    fail-many f = rw f (omega arith)

    fail-first : p x ≡ false → first_of p (x ∷ l) ≡ first_of p l
    unfolding first_of
    fail-first f = rw f

    passes : p x ≡ true → Counted l → Counted (x ∷ l)
    passes t (Counted.none e n) = Counted.one (omega (arith, pass-many t)) 0 (omega arith) t only (pass-first t)
      where
        only : (j : ℕ) → j < length (x ∷ l) → p (get_or (x ∷ l) j d) ≡ true → j ≡ 0
        only zero m h = refl
        only (suc j) m h = true-false h (n j (omega arith))
    passes t (Counted.one e k m h only f) = Counted.more (omega (arith, pass-many t)) 0 (suc k) (omega arith) (omega arith) t h
    passes t (Counted.more e j k o m a b) = Counted.more (omega (arith, pass-many t)) 0 (suc k) (omega arith) (omega arith) t b

    fails : p x ≡ false → Counted l → Counted (x ∷ l)
    fails f (Counted.none e n) = Counted.none (fail-many f ∙ e) each
      where
        each : (k : ℕ) → k < length (x ∷ l) → p (get_or (x ∷ l) k d) ≡ false
        each zero m = f
        each (suc k) m = n k (omega arith)
    fails f (Counted.one e k m h only g) = Counted.one (fail-many f ∙ e) (suc k) (omega arith) h single (fail-first f ∙ g)
      where
        single : (j : ℕ) → j < length (x ∷ l) → p (get_or (x ∷ l) j d) ≡ true → j ≡ suc k
        single zero n q = true-false q f
        single (suc j) n q = ap suc (only j (omega arith) q)
    fails f (Counted.more e j k o m a b) = Counted.more (omega (arith, fail-many f)) (suc j) (suc k) (omega arith) (omega arith) a b

  pub counted : (l : List LogLine) → Counted l
  unfolding how_many
  counted [] = Counted.none refl (λ k h. absurd (omega arith))
  counted (x ∷ l) = by_bool (p x) (λ t. passes x l t (counted l)) (λ f. fails x l f (counted l))
