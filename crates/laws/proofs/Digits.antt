-- A number's digits turn by turn, and that they say the number.
use Prim.Native.Nat.{ℕ, zero, suc, ◌+◌, ◌-◌, ◌*◌, ◌/◌, ◌%◌, ◌≤◌, ◌<◌}
use mathlib.Core.Path.{◌≡◌, refl, sym, ap, ◌∙◌}
use mathlib.Core.List.{List, [], ◌∷◌, ◌++◌}
use native.Mathlib.Omega.{arith}
use borrow.Author.Tests.{le-ltb, lt-ltb}
use Rattle.laws.specs.Digits.{digits_from, digits_of, value_after}
use Rattle.laws.proofs.Cases.{by_le}

from-small : (f n : ℕ) → n < 10 → digits_from (suc f) n ≡ (48 + n) ∷ []
unfolding digits_from
from-small f n h = rw (lt-ltb n 10 h, digits_from)

from-big : (f n : ℕ) → 10 ≤ n → digits_from (suc f) n ≡ digits_from f (n / 10) ++ ((48 + n % 10) ∷ [])
unfolding digits_from
from-big f n h = rw (le-ltb n 10 h, digits_from)

-- the fuel does not matter
fuel : (f g n : ℕ) → n < f → n < g → digits_from f n ≡ digits_from g n
fuel zero g n p q = absurd (omega arith)
fuel (suc f) zero n p q = absurd (omega arith)
fuel (suc f) (suc g) n p q =
    by_le 10 n
    (λ h.
    from-big f n h
    ∙ ap (λ (l : List ℕ). l ++ ((48 + n % 10) ∷ [])) (fuel f g (n / 10) (omega arith) (omega arith))
    ∙ sym (from-big g n h))
    (λ h. from-small f n h ∙ sym (from-small g n h))

pub digits-small : (n : ℕ) → n < 10 → digits_of n ≡ (48 + n) ∷ []
unfolding digits_of
digits-small n h = from-small n n h

pub digits-big : (n : ℕ) → 10 ≤ n → digits_of n ≡ digits_of (n / 10) ++ ((48 + n % 10) ∷ [])
unfolding digits_of
digits-big n h =
    from-big n n h
    ∙ ap (λ (l : List ℕ). l ++ ((48 + n % 10) ∷ [])) (fuel n (suc (n / 10)) (n / 10) (omega arith) (omega arith))

-- one digit more
pub digits-turn : (a d : ℕ) → 0 < a → d < 10 → digits_of (a * 10 + d) ≡ digits_of a ++ ((48 + d) ∷ [])
digits-turn a d p q =
    let e : (a * 10 + d) / 10 ≡ a = omega arith in
    let m : (a * 10 + d) % 10 ≡ d = omega arith in
    digits-big (a * 10 + d) (omega arith) ∙ rw (e, m)

pub value-append : (a : ℕ) (s t : List ℕ) → value_after a (s ++ t) ≡ value_after (value_after a s) t
unfolding value_after
value-append a [] t = refl
value-append a (b ∷ s) t = value-append (a * 10 + (b - 48)) s t

-- a number's digits say the number
says : (f n : ℕ) → n < f → value_after 0 (digits_of n) ≡ n
unfolding value_after
says zero n p = absurd (omega arith)
says (suc f) n p =
    by_le 10 n
    (λ h.
    rw (digits-big n h, value-append, says f (n / 10) (omega arith)) (omega arith))
    (λ h. rw (digits-small n h) (omega arith))

pub value-digits : (n : ℕ) → value_after 0 (digits_of n) ≡ n
value-digits n = says (suc n) n (omega arith)
