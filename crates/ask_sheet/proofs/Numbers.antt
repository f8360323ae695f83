-- The numbers of those picked, turn by turn and as far as they are picked; the soonest of a list.
use Prim.Native.Nat.{ℕ, zero, suc, ◌+◌, ◌-◌, ◌≤◌, ◌<◌}
use native.Mathlib.Numerals.{add-one}
use native.Mathlib.Omega.{arith}
use mathlib.Core.Path.{◌≡◌, refl, sym, ap, ◌∙◌}
use mathlib.Core.Bool.{Bool, true, false, ◌&&◌}
use mathlib.Core.List.{List, [], ◌∷◌, ◌++◌}
use lib.Dec.{eqb, ltb}
use borrow.Author.Tests.{lt-ltb, le-ltb}
use Rattle.laws.proofs.Cases.{by_bool}
use Rattle.ask_sheet.specs.Sheet.{numbers, sooner, soonest}

module _ (n : ℕ) (w : ℕ → Bool) where
  pub numbers-taken : w n ≡ true → numbers (n + 1) w ≡ numbers n w ++ ((n + 1) ∷ [])
  unfolding numbers
  numbers-taken h = rw (add-one, h)

  pub numbers-passed : w n ≡ false → numbers (n + 1) w ≡ numbers n w
  unfolding numbers
  numbers-passed h = rw (add-one, h)

pub numbers-same : (n : ℕ) (w v : ℕ → Bool) → ((k : ℕ) → k < n → w k ≡ v k) → numbers n w ≡ numbers n v
unfolding numbers
numbers-same zero w v e = refl
numbers-same (suc n) w v e = rw (e n (omega arith), numbers-same n w v (λ k h. e k (omega arith)))

pub numbers-none : (n : ℕ) (w : ℕ → Bool) → ((k : ℕ) → k < n → w k ≡ false) → numbers n w ≡ []
unfolding numbers
numbers-none zero w e = refl
numbers-none (suc n) w e = rw (e n (omega arith)) (numbers-none n w (λ k h. e k (omega arith)))

-- nobody past the first a is picked
pub numbers-to : (a m : ℕ) (w : ℕ → Bool) → numbers (a + m) (λ k. ltb k a && w k) ≡ numbers a w
numbers-to a zero w =
    let e : a + 0 ≡ a = omega arith in
    ap (λ (n : ℕ). numbers n (λ k. ltb k a && w k)) e
    ∙ numbers-same a (λ k. ltb k a && w k) w (λ k h. ap (λ (b : Bool). b && w k) (lt-ltb k a h))
numbers-to a (suc m) w =
    let e : a + suc m ≡ a + m + 1 = omega arith in
    ap (λ (n : ℕ). numbers n (λ k. ltb k a && w k)) e
    ∙ numbers-passed (a + m) (λ k. ltb k a && w k) (ap (λ (b : Bool). b && w (a + m)) (le-ltb (a + m) a (omega arith)))
    ∙ numbers-to a m w

pub numbers-within : (a n : ℕ) (w v : ℕ → Bool) → a ≤ n → ((k : ℕ) → k < n → v k ≡ (ltb k a && w k)) → numbers n v ≡ numbers a w
numbers-within a n w v le e =
    let m = n - a in
    let s : a + m ≡ n = omega arith in
    numbers-same n v (λ k. ltb k a && w k) e ∙ ap (λ (x : ℕ). numbers x (λ k. ltb k a && w k)) (sym s) ∙ numbers-to a m w

module _ (f : ℕ → ℕ) where
  pub soonest-more : (a k : ℕ) (l : List ℕ) → soonest f a (l ++ (k ∷ [])) ≡ sooner f (soonest f a l) k
  unfolding soonest
  soonest-more a k [] = refl
  soonest-more a k (x ∷ l) = soonest-more (sooner f a x) k l

  pub sooner-low : (a b n : ℕ) → a ≤ n → b ≤ n → sooner f a b ≤ n
  sooner-low a b n p q = by_bool (eqb a 0) (λ e. rw e q) (λ e. rw e (by_bool (ltb (f (b - 1)) (f (a - 1))) (λ t. rw t q) (λ t. rw t p)))
