-- A difference of ticks as an i32, and its digits.
use Prim.Native.Nat.{ℕ, zero, suc, ◌-◌, ◌≤◌, ◌<◌}
use native.Mathlib.Nat.{lt_of_le_of_lt}
use native.Mathlib.Omega.{arith}
use mathlib.Core.Path.{◌≡◌, refl, sym, ap, subst, ◌∙◌}
use mathlib.Core.Bool.{Bool, true, false}
use mathlib.Core.List.{List, ◌∷◌}
use lib.Dec.{T, lit<}
use lib.IntN.{ℤ, pos, negsuc, nat_abs, sub_ℕ, ◌-ℤ◌}
use lib.Signed.{lt_z, non_neg}
use borrow.Author.Tests.{le-ltb, ltb-true, lt-ltb}
use mir.Syntax.{w32}
use mir.Val.{Fits, SFits, to_z, of_z}
use mir.ValLaws.{to_z_pos, to_z-of_z}
use Rattle.laws.proofs.Cases.{by_le, true-false}
use Rattle.laws.specs.Digits.{digits_of}
use Rattle.school.specs.Lines.{MINUS}
use Rattle.school.specs.Text.{early_text}

-- ---- the difference of two ticks

difference : (a b : ℕ) → pos a -ℤ pos b ≡ sub_ℕ a b
difference a zero = rw (le-ltb a 0 (omega arith)) (ap pos (omega arith))
difference a (suc k) = refl

late : (a b : ℕ) → a < b → pos a -ℤ pos b ≡ negsuc (b - suc a)
late a b l = difference a b ∙ rw (lt-ltb a b l)

early : (a b : ℕ) → b ≤ a → pos a -ℤ pos b ≡ pos (a - b)
early a b l = difference a b ∙ rw (le-ltb a b l)

-- what is small fits
small-fits : (z : ℤ) → nat_abs z ≤ 1000000 → SFits w32 z
small-fits (pos n) h = record { sfits = lt_of_le_of_lt h (lit< tt) }
small-fits (negsuc n) h = record { sfits = lt_of_le_of_lt (let g : n ≤ 1000000 = omega arith in g) (lit< tt) }

pub small-difference : (a b : ℕ) → a ≤ 1000000 → b ≤ 1000000 → nat_abs (pos a -ℤ pos b) ≤ 1000000
small-difference a b h g =
    by_le b a
    (λ l. subst (λ (z : ℤ). nat_abs z ≤ 1000000) (sym (early a b l)) (omega arith))
    (λ l. subst (λ (z : ℤ). nat_abs z ≤ 1000000) (sym (late a b l)) (omega arith))

module _ {a b : ℕ} (h : a ≤ 1000000) (g : b ≤ 1000000) where
  tick : {n : ℕ} → n ≤ 1000000 → to_z w32 n ≡ pos n
  tick {n} l = to_z_pos w32 n (lt_of_le_of_lt l (lit< tt))

  both : to_z w32 a -ℤ to_z w32 b ≡ pos a -ℤ pos b
  both i = tick h i -ℤ tick g i

  pub early-fits : SFits w32 (to_z w32 a -ℤ to_z w32 b)
  early-fits = subst (SFits w32) (sym both) (small-fits _ (small-difference a b h g))

  pub early_is : to_z w32 (of_z w32 (to_z w32 a -ℤ to_z w32 b)) ≡ pos a -ℤ pos b
  early_is = to_z-of_z w32 _ early-fits ∙ both

-- what is handed on as bits is read again
pub early-read :
    (a b : ℕ) {z : ℤ} → a ≤ 1000000 → b ≤ 1000000 → z ≡ pos a -ℤ pos b → to_z w32 (of_z w32 z) ≡ pos a -ℤ pos b
early-read a b h g e =
    ap (λ (z : ℤ). to_z w32 (of_z w32 z)) e ∙ to_z-of_z w32 _ (small-fits _ (small-difference a b h g))

pub size-read : {n : ℤ} {size : ℕ} → SFits w32 n → size ≡ nat_abs (to_z w32 (of_z w32 n)) → size ≡ nat_abs n
size-read {n} f e = e ∙ ap nat_abs (to_z-of_z w32 n f)

pub sign_read : {n : ℤ} {b c : Bool} → SFits w32 n → b ≡ lt_z (to_z w32 (of_z w32 n)) (pos 0) → b ≡ c → lt_z n (pos 0) ≡ c
sign_read {n} f e t = ap (λ (z : ℤ). lt_z z (pos 0)) (sym (to_z-of_z w32 n f)) ∙ sym e ∙ t

-- ---- a number without its sign

below : (n : ℤ) → lt_z n (pos 0) ≡ true → pos 0 -ℤ n ≡ pos (nat_abs n)
below (pos a) t = let l = ltb-true a 0 t in absurd (omega arith)
below (negsuc k) t = ap pos (omega arith)

above : (n : ℤ) → lt_z n (pos 0) ≡ false → n ≡ pos (nat_abs n)
above (pos a) t = refl
above (negsuc k) t = true-false refl t

abbrev Natural : ℤ → Type 0
Natural z = T (non_neg z) × Fits w32 (nat_abs z)

natural : (n : ℕ) → n ≤ 1000000 → Natural (pos n)
natural n h = (tt, record { fits = lt_of_le_of_lt h (lit< tt) })

module _ {n : ℤ} (f : SFits w32 n) (h : nat_abs n ≤ 1000000) where
  back : to_z w32 (of_z w32 n) ≡ n
  back = to_z-of_z w32 n f

  abbrev minus : ℤ
  minus = to_z w32 0 -ℤ to_z w32 (of_z w32 n)

  module _ (t : lt_z (to_z w32 (of_z w32 n)) (to_z w32 0) ≡ true) where
    minus_is : minus ≡ pos (nat_abs n)
    minus_is = (λ i. pos 0 -ℤ back i) ∙ below n (subst (λ (z : ℤ). lt_z z (pos 0) ≡ true) back t)

    pub minus-fits : SFits w32 minus
    minus-fits = subst (SFits w32) (sym minus_is) (small-fits (pos (nat_abs n)) h)

    minus-back : to_z w32 (of_z w32 minus) ≡ pos (nat_abs n)
    minus-back = to_z-of_z w32 _ minus-fits ∙ minus_is

    pub minus-natural : Natural (to_z w32 (of_z w32 minus))
    minus-natural = subst Natural (sym minus-back) (natural (nat_abs n) h)

    pub minus-size : nat_abs (to_z w32 (of_z w32 minus)) ≡ nat_abs n
    minus-size = ap nat_abs minus-back

  module _ (t : lt_z (to_z w32 (of_z w32 n)) (to_z w32 0) ≡ false) where
    pub own-natural : Natural (to_z w32 (of_z w32 n))
    own-natural =
        subst Natural (sym (back ∙ above n (subst (λ (z : ℤ). lt_z z (pos 0) ≡ false) back t))) (natural (nat_abs n) h)

    pub own-size : nat_abs (to_z w32 (of_z w32 n)) ≡ nat_abs n
    own-size = ap nat_abs back

-- ---- its digits

-- `-` before a number below zero
unfoldable pub signed_text : ℤ → List ℕ
signed_text (pos n) = digits_of n
signed_text (negsuc n) = MINUS ∷ digits_of (suc n)

pub text-below : (n : ℤ) → lt_z n (pos 0) ≡ true → signed_text n ≡ 45 ∷ digits_of (nat_abs n)
unfolding signed_text
text-below (pos a) t = let l = ltb-true a 0 t in absurd (omega arith)
text-below (negsuc k) t = refl

pub text-above : (n : ℤ) → lt_z n (pos 0) ≡ false → signed_text n ≡ digits_of (nat_abs n)
unfolding signed_text
text-above (pos a) t = refl
text-above (negsuc k) t = true-false refl t

-- the text of a difference is that of the ticks early
pub text-early : (planned end : ℕ) → signed_text (pos planned -ℤ pos end) ≡ early_text planned end
unfolding signed_text early_text
text-early planned end =
    by_le end planned
    (λ l. ap signed_text (early planned end l) ∙ rw (le-ltb planned end l))
    (λ l.
    let e : suc (end - suc planned) ≡ end - planned = omega arith in
    ap signed_text (late planned end l) ∙ rw (lt-ltb planned end l, e))
