-- A list whose keys lie in 1 .. high and rise strictly rises from 0.
use Prim.Native.Nat.{ℕ, ◌≤◌}
use mathlib.Core.Path.{◌≡◌, refl}
use mathlib.Core.Bool.{Bool, true, ◌&&◌}
use mathlib.Core.List.{List, [], ◌∷◌}
use native.Mathlib.Omega.{arith}
use lib.Dec.{leb, ltb}
use borrow.Author.Tests.{ltb-true, lt-ltb, le-leb, leb-true}
use Rattle.laws.specs.Lists.{all_of, rising}
use Rattle.laws.specs.Private.Rise.{rises_from}
use Rattle.laws.proofs.Cases.{and_l, and_r, and-of, same_test}

module _ (key : ℕ → ℕ) (high : ℕ) where
  abbrev in_range : ℕ → Bool
  in_range x = leb 1 (key x) && leb (key x) high

  down : (x : ℕ) (l : List ℕ) → rises_from key high (key x) l ≡ true → 1 ≤ key x → (all_of in_range l ≡ true) × (rising key (x ∷ l) ≡ true)
  unfolding rises_from all_of rising
  down x [] h p = (refl, refl)
  down x (y ∷ l) h p =
      let here = and_l (ltb (key x) (key y) && leb (key y) high) (rises_from key high (key y) l) h in
      let up = and_l (ltb (key x) (key y)) (leb (key y) high) here in
      let low = ltb-true (key x) (key y) up in
      let r = down y l (and_r (ltb (key x) (key y) && leb (key y) high) (rises_from key high (key y) l) h) (omega arith) in (
        and-of (and-of (le-leb 1 (key y) (omega arith)) (and_r (ltb (key x) (key y)) (leb (key y) high) here)) r.0,
        and-of up r.1,
      )

  up : (x : ℕ) (l : List ℕ) → all_of in_range l ≡ true → rising key (x ∷ l) ≡ true → rises_from key high (key x) l ≡ true
  unfolding rises_from all_of rising
  up x [] a r = refl
  up x (y ∷ l) a r =
      let here = and_l (in_range y) (all_of in_range l) a in
      and-of
      (and-of (and_l (ltb (key x) (key y)) (rising key (y ∷ l)) r) (and_r (leb 1 (key y)) (leb (key y) high) here))
      (up y l (and_r (in_range y) (all_of in_range l) a) (and_r (ltb (key x) (key y)) (rising key (y ∷ l)) r))

  -- in range and rising is rising from 0
  pub rises-is : (l : List ℕ) → (all_of in_range l && rising key l) ≡ rises_from key high 0 l
  unfolding rises_from all_of rising
  rises-is [] = refl
  rises-is (x ∷ l) = same_test _ _ to from
    where
      to : (all_of in_range (x ∷ l) && rising key (x ∷ l)) ≡ true → rises_from key high 0 (x ∷ l) ≡ true
      to h =
          let a = and_l (all_of in_range (x ∷ l)) (rising key (x ∷ l)) h in
          let here = and_l (in_range x) (all_of in_range l) a in
          and-of
          (and-of
          (lt-ltb 0 (key x) (leb-true 1 (key x) (and_l (leb 1 (key x)) (leb (key x) high) here)))
          (and_r (leb 1 (key x)) (leb (key x) high) here))
          (up x l (and_r (in_range x) (all_of in_range l) a) (and_r (all_of in_range (x ∷ l)) (rising key (x ∷ l)) h))

      from : rises_from key high 0 (x ∷ l) ≡ true → (all_of in_range (x ∷ l) && rising key (x ∷ l)) ≡ true
      from h =
          let here = and_l (ltb 0 (key x) && leb (key x) high) (rises_from key high (key x) l) h in
          let low = ltb-true 0 (key x) (and_l (ltb 0 (key x)) (leb (key x) high) here) in
          let r = down x l (and_r (ltb 0 (key x) && leb (key x) high) (rises_from key high (key x) l) h) low in
          and-of (and-of (and-of (le-leb 1 (key x) low) (and_r (ltb 0 (key x)) (leb (key x) high) here)) r.0) r.1
