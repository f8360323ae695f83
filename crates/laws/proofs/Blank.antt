-- Items followed by zeros, and how many items a rising list has.
use Prim.Native.Nat.{ℕ, suc, ◌+◌, ◌≤◌}
use mathlib.Core.List.{List, [], ◌∷◌, ◌++◌, append-nil}
use mathlib.Core.Bool.{Bool, true, false, not, ◌&&◌}
use mathlib.Core.Path.{◌≡◌, refl, ap, ◌∙◌}
use lib.ListN.{length, drop, replicate, length-replicate}
use lib.Seq.{sets, sets-eq, take-append_seam, drop-append_seam}
use lib.Dec.{eqb, leb, ltb}
use native.Mathlib.Omega.{arith}
use borrow.Author.Tests.{eqb-true, ne_eqb, leb-true, ltb-true, not-true}
use Rattle.laws.specs.Lists.{all_of, rising}
use Rattle.laws.specs.Split.{index_of, before}
use Rattle.laws.proofs.Cases.{and_l, and_r, and-of}
use Rattle.laws.proofs.Lists.{all_same}
use Rattle.laws.proofs.Split.{free, index-seam}

-- nothing is kept: zeros only
abbrev pub blank : List ℕ → Bool
blank l = all_of (eqb 0) l

pub blank-same : (a b : List ℕ) → blank a ≡ true → blank b ≡ true → length a ≡ length b → a ≡ b
unfolding all_of
blank-same [] [] p q e = refl
blank-same [] (y ∷ b) p q e = absurd (omega arith)
blank-same (x ∷ a) [] p q e = absurd (omega arith)
blank-same (x ∷ a) (y ∷ b) p q e =
    let r : a ≡ b = blank-same a b (and_r (eqb 0 x) (blank a) p) (and_r (eqb 0 y) (blank b) q) (omega arith) in
    let s : 0 ≡ x = eqb-true 0 x (and_l (eqb 0 x) (blank a) p) in
    let t : 0 ≡ y = eqb-true 0 y (and_l (eqb 0 y) (blank b) q) in
    cc

pub length-zeros : (n : ℕ) → length (replicate {A = ℕ} n 0) ≡ n
length-zeros n = length-replicate {A = ℕ} n 0

pub blank-zeros : (n : ℕ) → blank (replicate n 0) ≡ true
blank-zeros n = all_same (eqb 0) n 0 refl

-- the items of a list are what stands before its zeros
index-free : (c : ℕ) (f : List ℕ) → free c f ≡ true → index_of c f ≡ length f
unfolding index_of all_of
index-free c [] h = refl
index-free c (b ∷ f) h =
    let e : eqb b c ≡ false = not-true (eqb b c) (and_l (not (eqb b c)) (free c f) h) in
    rw e (ap suc (index-free c f (and_r (not (eqb b c)) (free c f) h)))

pub index-blank : (f z : List ℕ) → free 0 f ≡ true → blank z ≡ true → index_of 0 (f ++ z) ≡ length f
unfolding all_of
index-blank f [] h b = rw append-nil (index-free 0 f h)
index-blank f (x ∷ z) h b =
    let e : 0 ≡ x = eqb-true 0 x (and_l (eqb 0 x) (blank z) b) in rw (← e) (index-seam 0 f z h)

pub before-blank : (f z : List ℕ) → free 0 f ≡ true → blank z ≡ true → before 0 (f ++ z) ≡ f
before-blank f z h b = rw (index-blank f z h b, take-append_seam)

pub blank-after : (f z : List ℕ) → free 0 f ≡ true → blank z ≡ true → blank (drop (index_of 0 (f ++ z)) (f ++ z)) ≡ true
blank-after f z h b = rw (index-blank f z h b, drop-append_seam) b

-- items stored at the front of a list
pub sets-front : (vs l : List ℕ) → length vs ≤ length l → sets l 0 vs ≡ vs ++ drop (length vs) l
sets-front vs l h =
    let e : 0 + length vs ≡ length vs = omega arith in sets-eq vs l 0 (omega arith) ∙ rw e

-- ---- a rising list of keys 1 to n

module _ (key : ℕ → ℕ) (n : ℕ) where
  abbrev pub within : ℕ → Bool
  within x = leb 1 (key x) && leb (key x) n

  -- has at most n items
  room-from : (x : ℕ) (l : List ℕ) → all_of within (x ∷ l) ≡ true → rising key (x ∷ l) ≡ true → key x + length l ≤ n
  unfolding all_of rising
  room-from x [] a r =
      let h = leb-true (key x) n (and_r (leb 1 (key x)) (leb (key x) n) (and_l (within x) true a)) in omega arith
  room-from x (y ∷ l) a r =
      let h = ltb-true (key x) (key y) (and_l (ltb (key x) (key y)) (rising key (y ∷ l)) r) in
      let i = room-from y l (and_r (within x) (all_of within (y ∷ l)) a) (and_r (ltb (key x) (key y)) (rising key (y ∷ l)) r) in
      omega arith

  pub rising-room : (l : List ℕ) → all_of within l ≡ true → rising key l ≡ true → length l ≤ n
  unfolding all_of
  rising-room [] a r = omega arith
  rising-room (x ∷ l) a r =
      let h = leb-true 1 (key x) (and_l (leb 1 (key x)) (leb (key x) n) (and_l (within x) (all_of within l) a)) in
      let i = room-from x l a r in
      omega arith

  -- and no item of key 0
  pub within-free : key 0 ≡ 0 → (l : List ℕ) → all_of within l ≡ true → free 0 l ≡ true
  unfolding all_of
  within-free z [] a = refl
  within-free z (x ∷ l) a =
      let h = leb-true 1 (key x) (and_l (leb 1 (key x)) (leb (key x) n) (and_l (within x) (all_of within l) a)) in
      let ne : eqb x 0 ≡ false = ne_eqb x 0 (λ e. let q : key x ≡ 0 = ap key e ∙ z in omega arith) in
      and-of (ap not ne) (within-free z l (and_r (within x) (all_of within l) a))
