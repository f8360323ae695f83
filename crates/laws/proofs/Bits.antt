-- The bits of a number: what `|`, `&`, a single bit and a set have, and that a number is its bits.
use Prim.Native.Nat.{ℕ, zero, suc, ◌+◌, ◌-◌, ◌/◌, ◌%◌, ◌^◌, ◌≤◌, ◌<◌}
use mathlib.Core.Path.{◌≡◌, refl, sym, ap, ◌∙◌}
use mathlib.Core.Logic.{◌≢◌}
use mathlib.Core.Bool.{Bool, true, false, cond, ◌&&◌, ◌||◌, and-false, or-false}
use native.Mathlib.Nat.{lt_of_lt_of_le, mod-lt, div-add-mod', div-eq_of_lt, mul-one, one-mul}
use native.Mathlib.Numerals.{one-add, add-one}
use native.Mathlib.Omega.{arith}
use lib.Arith.{bin_ind}
use lib.Bits.{bit_and, bit_or, and_shr, or_shr, and_mod, or_mod, shifted_even}
use lib.Pow.{pow_pos, pow_mono, pow-lt, pow-add, shl-shr, shr-shr}
use lib.Dec.{eqb, ltb}
use borrow.Author.Tests.{eq-eqb, ne_eqb, eqb-true, lt-ltb, le-ltb}
use Rattle.laws.specs.Bits.{has, set_of}
use Rattle.laws.proofs.Cases.{by_bool, by-eq, by_le, true-false}

digit_or : (a b : ℕ) → a < 2 → b < 2 → eqb (bit_or a b) 1 ≡ (eqb a 1 || eqb b 1)
digit_or zero zero p q = refl
digit_or zero (suc zero) p q = refl
digit_or (suc zero) zero p q = refl
digit_or (suc zero) (suc zero) p q = refl
digit_or (suc (suc a)) b p q = absurd (omega arith)
digit_or zero (suc (suc b)) p q = absurd (omega arith)
digit_or (suc zero) (suc (suc b)) p q = absurd (omega arith)

digit_and : (a b : ℕ) → a < 2 → b < 2 → eqb (bit_and a b) 1 ≡ (eqb a 1 && eqb b 1)
digit_and zero zero p q = refl
digit_and zero (suc zero) p q = refl
digit_and (suc zero) zero p q = refl
digit_and (suc zero) (suc zero) p q = refl
digit_and (suc (suc a)) b p q = absurd (omega arith)
digit_and zero (suc (suc b)) p q = absurd (omega arith)
digit_and (suc zero) (suc (suc b)) p q = absurd (omega arith)

low : (n : ℕ) → n % 2 < 2
low n = mod-lt n (pow_pos 1)

pub has-or : (a b d : ℕ) → has (bit_or a b) d ≡ (has a d || has b d)
has-or a b d =
    ap (λ (x : ℕ). eqb (x % 2) 1) (or_shr a b d) ∙ ap (λ (x : ℕ). eqb x 1) (or_mod (a / 2 ^ d) (b / 2 ^ d) 1)
    ∙ digit_or (a / 2 ^ d % 2) (b / 2 ^ d % 2) (low (a / 2 ^ d)) (low (b / 2 ^ d))

pub has-and : (a b d : ℕ) → has (bit_and a b) d ≡ (has a d && has b d)
has-and a b d =
    ap (λ (x : ℕ). eqb (x % 2) 1) (and_shr a b d) ∙ ap (λ (x : ℕ). eqb x 1) (and_mod (a / 2 ^ d) (b / 2 ^ d) 1)
    ∙ digit_and (a / 2 ^ d % 2) (b / 2 ^ d % 2) (low (a / 2 ^ d)) (low (b / 2 ^ d))

pub has-none : (d : ℕ) → has 0 d ≡ false
has-none d = ap (λ (x : ℕ). eqb (x % 2) 1) (div-eq_of_lt (pow_pos d))

-- one bit
pub has-bit : (k d : ℕ) → has (2 ^ k) d ≡ eqb k d
has-bit k d =
    by-eq k d (λ e. ap (λ (x : ℕ). has (2 ^ k) x) (sym e) ∙ here ∙ sym (eq-eqb k d e))
    (λ n. by_le d k (λ le. below (omega arith) ∙ sym (ne_eqb k d n)) (λ lt. above lt ∙ sym (ne_eqb k d n)))
  where
    here : has (2 ^ k) k ≡ true
    here = ap (λ (x : ℕ). eqb (x % 2) 1) (ap (λ (x : ℕ). x / 2 ^ k) (sym (one-mul (2 ^ k))) ∙ shl-shr 1 k)

    above : k < d → has (2 ^ k) d ≡ false
    above lt = ap (λ (x : ℕ). eqb (x % 2) 1) (div-eq_of_lt (pow-lt lt))

    below : d < k → has (2 ^ k) d ≡ false
    below lt =
        let m : ℕ = k - d - 1 in
        let e : k ≡ suc m + d = omega arith in
        ap (λ (x : ℕ). eqb (x % 2) 1)
        (ap (λ (x : ℕ). 2 ^ x / 2 ^ d) e ∙ ap (λ (x : ℕ). x / 2 ^ d) (pow-add 2 (suc m) d) ∙ shl-shr (2 ^ suc m) d)
        ∙ ap (λ (x : ℕ). eqb x 1) (ap (λ (x : ℕ). x % 2) (sym (one-mul (2 ^ suc m))) ∙ shifted_even 1 m)

has_first : (n : ℕ) → has n 0 ≡ eqb (n % 2) 1
has_first n = ap (λ (x : ℕ). eqb (x % 2) 1) (ap (λ (x : ℕ). x / 2 ^ 0) (sym (mul-one n)) ∙ shl-shr n 0)

has-next : (n d : ℕ) → has n (suc d) ≡ has (n / 2) d
has-next n d = ap (λ (x : ℕ). eqb (n / 2 ^ x % 2) 1) (sym (one-add d)) ∙ ap (λ (x : ℕ). eqb (x % 2) 1) (sym (shr-shr n 1 d))

-- a number other than 0 has a bit
pub some-bit : (n : ℕ) → n ≢ 0 → (d : ℕ) × (has n d ≡ true)
some-bit = bin_ind (λ (n : ℕ). n ≢ 0 → (d : ℕ) × (has n d ≡ true)) (λ h. absurd (h refl)) step
  where
    step : (n : ℕ) → (n / 2 ≢ 0 → (d : ℕ) × (has (n / 2) d ≡ true)) → n ≢ 0 → (d : ℕ) × (has n d ≡ true)
    step n ih h =
        by-eq (n % 2) 1 (λ e. (0, has_first n ∙ eq-eqb (n % 2) 1 e))
        (λ ne.
        let rest = ih (λ z. h (omega (arith, div-add-mod' n 2, low n, z, ne))) in
        (suc rest.0, has-next n rest.0 ∙ rest.1))

-- numbers with the same bits are the same
pub same_bits : (a b : ℕ) → ((d : ℕ) → has a d ≡ has b d) → a ≡ b
same_bits =
    bin_ind (λ (a : ℕ). (b : ℕ) → ((d : ℕ) → has a d ≡ has b d) → a ≡ b)
    (λ b f. by-eq b 0 (λ e. sym e) (λ n. let r = some-bit b n in true-false (f r.0 ∙ r.1) (has-none r.0))) step
  where
    alike : (x y : ℕ) → x < 2 → y < 2 → eqb x 1 ≡ eqb y 1 → x ≡ y
    alike x y p q e =
        by-eq x 1 (λ h. h ∙ sym (eqb-true y 1 (sym e ∙ eq-eqb x 1 h)))
        (λ n. by-eq y 1 (λ k. absurd (n (eqb-true x 1 (e ∙ eq-eqb y 1 k)))) (λ m. omega arith))

    step : (a : ℕ) → ((b : ℕ) → ((d : ℕ) → has (a / 2) d ≡ has b d) → a / 2 ≡ b) → (b : ℕ) → ((d : ℕ) → has a d ≡ has b d) → a ≡ b
    step a ih b f =
        let high : a / 2 ≡ b / 2 = ih (b / 2) (λ d. sym (has-next a d) ∙ f (suc d) ∙ has-next b d) in
        let last : a % 2 ≡ b % 2 = alike (a % 2) (b % 2) (low a) (low b) (sym (has_first a) ∙ f 0 ∙ has_first b) in
        omega (arith, div-add-mod' a 2, div-add-mod' b 2, high, last)

-- past its width a number has no bit
pub has-past : (n set d : ℕ) → set < 2 ^ n → n ≤ d → has set d ≡ false
has-past n set d small le = ap (λ (x : ℕ). eqb (x % 2) 1) (div-eq_of_lt (lt_of_lt_of_le small (pow_mono le)))

-- the set of those below n of which p holds
pub has-set : (n : ℕ) (p : ℕ → Bool) (d : ℕ) → has (set_of n p) d ≡ (ltb d n && p d)
unfolding set_of
has-set zero p d = has-none d ∙ sym (ap (λ (b : Bool). b && p d) (le-ltb d 0 (omega arith)))
has-set (suc n) p d =
    has-or (set_of n p) (cond (p n) (2 ^ n) 0) d ∙ rw (has-set n p d, bit (p n))
    (by-eq d n (λ e. rw (e, le-ltb n n (omega arith), lt-ltb n (suc n) (omega arith), eq-eqb n n refl) (one (p n)))
    (λ ne. rw (ne_eqb n d (λ e. ne (sym e))) (other ne)))
  where
    bit : (b : Bool) → has (cond b (2 ^ n) 0) d ≡ (b && eqb n d)
    bit true = has-bit n d
    bit false = has-none d

    one : (b : Bool) → (false || (b && true)) ≡ (true && b)
    one true = refl
    one false = refl

    other : (d ≡ n → ⊥) → ((ltb d n && p d) || (p n && false)) ≡ (ltb d (suc n) && p d)
    other ne =
        rw (and-false (p n), or-false (ltb d n && p d))
        (by_le n d (λ l. rw (le-ltb d n l, le-ltb d (suc n) (omega arith))) (λ l. rw (lt-ltb d n l, lt-ltb d (suc n) (omega arith))))

pub has-below : (n : ℕ) (p : ℕ → Bool) (d : ℕ) → d < n → has (set_of n p) d ≡ p d
has-below n p d l = has-set n p d ∙ rw (lt-ltb d n l)

pub set-turn : (n : ℕ) (p : ℕ → Bool) → set_of (n + 1) p ≡ bit_or (set_of n p) (cond (p n) (2 ^ n) 0)
unfolding set_of
set-turn n p = rw add-one

-- a number of n bits is the set of these bits
pub set_is : (n set : ℕ) (p : ℕ → Bool) → set < 2 ^ n → ((d : ℕ) → d < n → has set d ≡ p d) → set ≡ set_of n p
set_is n set p small f =
    same_bits set (set_of n p)
    (λ d.
    by_le n d
    (λ l. has-past n set d small l ∙ sym (has-set n p d ∙ rw (le-ltb d n l)))
    (λ l. f d l ∙ sym (has-below n p d l)))

-- what a number and a set have in common
pub set-within :
    (n set : ℕ) (q f : ℕ → Bool) → ((d : ℕ) → d < n → f d ≡ true → has set d ≡ q d)
    → bit_and set (set_of n f) ≡ set_of n (λ d. q d && f d)
set-within n set q f h =
    same_bits (bit_and set (set_of n f)) (set_of n (λ d. q d && f d))
    (λ d. has-and set (set_of n f) d ∙ rw (has-set n f d, has-set n (λ x. q x && f x) d) (join d))
  where
    join : (d : ℕ) → (has set d && (ltb d n && f d)) ≡ (ltb d n && (q d && f d))
    join d =
        by_le n d (λ l. rw (le-ltb d n l) (and-false (has set d)))
        (λ l.
        rw (lt-ltb d n l)
        (by_bool (f d) (λ t. ap (λ (b : Bool). b && f d) (h d l t))
        (λ t. rw t (and-false (has set d) ∙ sym (and-false (q d))))))

pub set_same : (n : ℕ) (p q : ℕ → Bool) → ((d : ℕ) → d < n → p d ≡ q d) → set_of n p ≡ set_of n q
unfolding set_of
set_same zero p q f = refl
set_same (suc n) p q f = rw (set_same n p q (λ d l. f d (omega arith)), f n (omega arith))

pub set-none : (n : ℕ) (p : ℕ → Bool) → ((d : ℕ) → d < n → p d ≡ false) → set_of n p ≡ 0
unfolding set_of
set-none zero p f = refl
set-none (suc n) p f = rw (set-none n p (λ d l. f d (omega arith)), f n (omega arith))
