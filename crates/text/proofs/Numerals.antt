-- A number's digits are its one spelling: to the text and back.
use Prim.Native.Nat.{ℕ, zero, suc, ◌+◌, ◌-◌, ◌*◌, ◌/◌, ◌%◌, ◌≤◌, ◌<◌}
use mathlib.Core.Path.{◌≡◌, refl, sym, ap, ◌∙◌}
use mathlib.Core.Bool.{Bool, true, not}
use mathlib.Core.List.{List, [], ◌∷◌, ◌++◌, append_assoc, append-nil}
use native.Mathlib.Omega.{arith}
use lib.ListN.{length}
use lib.Dec.{eqb, leb}
use borrow.Author.Tests.{leb-true, le-leb, eqb-false, ne_eqb, not-true}
use Rattle.laws.proofs.Cases.{by_le, and_l, and_r, and-of, true-false}
use Rattle.laws.specs.Lists.{all_of}
use Rattle.laws.proofs.Lists.{all_append}
use Rattle.laws.proofs.Split.{free}
use Rattle.laws.specs.Digits.{digits_of, value_after}
use Rattle.laws.proofs.Digits.{digits-small, digits-big, digits-turn}
use Rattle.text.specs.Number.{is_digit, is_number, value_of}
use Rattle.text.proofs.Spell.{width_small, width-big}

-- ---- digits

digit_low : (b : ℕ) → is_digit b ≡ true → 48 ≤ b
digit_low b h = leb-true 48 b (and_l (leb 48 b) (leb b 57) h)

digit-high : (b : ℕ) → is_digit b ≡ true → b ≤ 57
digit-high b h = leb-true b 57 (and_r (leb 48 b) (leb b 57) h)

is_digit_lem : (b : ℕ) → 48 ≤ b → b ≤ 57 → is_digit b ≡ true
is_digit_lem b lo hi = and-of (le-leb 48 b lo) (le-leb b 57 hi)

-- what holds of one digit, and with one digit more, holds of every number's digits
pub by_digits :
    (P : ℕ → List ℕ → Type 0) → ((n : ℕ) → n < 10 → P n ((48 + n) ∷ []))
    → ((n : ℕ) (l : List ℕ) → 10 ≤ n → P (n / 10) l → P n (l ++ ((48 + n % 10) ∷ []))) → (n : ℕ) → P n (digits_of n)
by_digits P small big n = go (suc n) n (omega arith)
  where
    go : (f n : ℕ) → n < f → P n (digits_of n)
    go zero n h = absurd (omega arith)
    go (suc f) n h =
        by_le 10 n
        (λ g. rw (digits-big n g) (big n (digits_of (n / 10)) g (go f (n / 10) (omega arith))))
        (λ g. rw (digits-small n g) (small n g))

pub digits-all : (n : ℕ) → all_of is_digit (digits_of n) ≡ true
unfolding all_of
digits-all =
    by_digits (λ n l. all_of is_digit l ≡ true)
    (λ n h. and-of (is_digit_lem (48 + n) (omega arith) (omega arith)) refl)
    (λ n l h g. all_append is_digit l ((48 + n % 10) ∷ [])
    ∙ and-of g (and-of (is_digit_lem (48 + n % 10) (omega arith) (omega arith)) refl))

-- ---- a number's digits are a number

data Lead (l : List ℕ) : Type 0 where
  lead : (b : ℕ) (s : List ℕ) → l ≡ b ∷ s → 48 < b → Lead l

leads : (n : ℕ) → 0 < n → Lead (digits_of n)
leads =
    by_digits (λ n l. 0 < n → Lead l)
    (λ n h p. lead (48 + n) [] refl (omega arith))
    (λ n l h g p. more n l (g (omega arith)))
  where
    more : (n : ℕ) (l : List ℕ) → Lead l → Lead (l ++ ((48 + n % 10) ∷ []))
    more n l (lead b s e h) = lead b (s ++ ((48 + n % 10) ∷ [])) (rw e) h

lead-number : (b : ℕ) (s : List ℕ) → 48 < b → all_of is_digit (b ∷ s) ≡ true → is_number (b ∷ s) ≡ true
unfolding is_number all_of
lead-number b [] h a = and_l (is_digit b) true a
lead-number b (c ∷ s) h a =
    let n : not (eqb b 48) ≡ true = rw (ne_eqb b 48 (λ e. omega arith)) in and-of n a

pub digits_number : (n : ℕ) → is_number (digits_of n) ≡ true
unfolding is_number
digits_number zero = rw (digits-small 0 (omega arith))
digits_number (suc n) = go (leads (suc n) (omega arith))
  where
    go : Lead (digits_of (suc n)) → is_number (digits_of (suc n)) ≡ true
    go (lead b s e h) = ap is_number e ∙ lead-number b s h (ap (all_of is_digit) (sym e) ∙ digits-all (suc n))

-- ---- a number is the digits of what it says

value-spelt : (a : ℕ) (s : List ℕ) → 0 < a → all_of is_digit s ≡ true → digits_of (value_after a s) ≡ digits_of a ++ s
unfolding value_after all_of
value-spelt a [] p h = sym (append-nil (digits_of a))
value-spelt a (b ∷ s) p h =
    let d = and_l (is_digit b) (all_of is_digit s) h in
    let lo = digit_low b d in
    let hi = digit-high b d in
    let m : 48 + (b - 48) ≡ b = omega arith in
    value-spelt (a * 10 + (b - 48)) s (omega arith) (and_r (is_digit b) (all_of is_digit s) h)
    ∙ ap (λ (l : List ℕ). l ++ s) (digits-turn a (b - 48) p (omega arith))
    ∙ append_assoc (digits_of a) ((48 + (b - 48)) ∷ []) s
    ∙ rw m

first-spelt : (b : ℕ) → is_digit b ≡ true → digits_of (0 * 10 + (b - 48)) ≡ b ∷ []
first-spelt b d =
    let lo = digit_low b d in
    let hi = digit-high b d in
    let m : 48 + (0 * 10 + (b - 48)) ≡ b = omega arith in
    digits-small (0 * 10 + (b - 48)) (omega arith) ∙ rw m

pub number-spelt : (s : List ℕ) → is_number s ≡ true → digits_of (value_of s) ≡ s
unfolding is_number value_after all_of
number-spelt [] h = true-false h refl
number-spelt (b ∷ []) h = first-spelt b h
number-spelt (b ∷ c ∷ s) h =
    let a = and_r (not (eqb b 48)) (all_of is_digit (b ∷ c ∷ s)) h in
    let d = and_l (is_digit b) (all_of is_digit (c ∷ s)) a in
    let ne = eqb-false b 48 (not-true (eqb b 48) (and_l (not (eqb b 48)) (all_of is_digit (b ∷ c ∷ s)) h)) in
    let lo = digit_low b d in
    value-spelt (0 * 10 + (b - 48)) (c ∷ s) (omega (arith, ne)) (and_r (is_digit b) (all_of is_digit (c ∷ s)) a)
    ∙ ap (λ (l : List ℕ). l ++ (c ∷ s)) (first-spelt b d)

-- ---- what digits are free of, and how many there are

pub all-imply :
    (p q : ℕ → Bool) (l : List ℕ) → ((x : ℕ) → p x ≡ true → q x ≡ true) → all_of p l ≡ true → all_of q l ≡ true
unfolding all_of
all-imply p q [] f h = refl
all-imply p q (x ∷ l) f h = and-of (f x (and_l (p x) (all_of p l) h)) (all-imply p q l f (and_r (p x) (all_of p l) h))

-- a byte below `0`: TAB, LF, the comma and the mark `-`
pub digits-free : (c n : ℕ) → c < 48 → free c (digits_of n) ≡ true
digits-free c n h =
    all-imply is_digit (λ b. not (eqb b c)) (digits_of n)
    (λ b d. let lo = digit_low b d in rw (ne_eqb b c (λ e. omega arith)))
    (digits-all n)

wider :
    (b k : ℕ) → 0 < b → ((n : ℕ) → n < b → length (digits_of n) ≤ k) → (n : ℕ) → n < b * 10 → length (digits_of n) ≤ k + 1
wider b k p f n h =
    by_le 10 n
    (λ g. let r = f (n / 10) (omega arith) in omega (arith, width-big n g))
    (λ g. omega (arith, width_small n g))

pub digits-seven : (n : ℕ) → n ≤ 1000000 → length (digits_of n) ≤ 7
digits-seven n h =
    wider 1000000 6 (omega arith)
    (wider 100000 5 (omega arith)
    (wider 10000 4 (omega arith)
    (wider 1000 3 (omega arith)
    (wider 100 2 (omega arith)
    (wider 10 1 (omega arith) (λ m g. omega (arith, width_small m g)))))))
    n
    (omega arith)
