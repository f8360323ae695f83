-- The code of one field of a line.
use Prim.Native.Nat.{ℕ, ◌≤◌, ◌<◌}
use native.Mathlib.Omega.{arith}
use mathlib.Core.Path.{◌≡◌, refl}
use mathlib.Core.Logic.{◌⊎◌, inl, inr, ⊎_elim}
use mathlib.Core.Bool.{Bool, true, false, cond, ◌&&◌}
use lib.Dec.{eqb, leb}
use borrow.Author.Tests.{le-leb, lt-leb}
use Rattle.laws.proofs.Cases.{by_bool, by_le, and-of, true-false}
use Rattle.text_fields.specs.Items.{between}
use Rattle.text_fields.specs.Faults.{code_for}

-- with one more number, for a field that is faultless otherwise
abbrev pub over : ℕ → Bool → Bool → Bool → ℕ
over n spelt fine extra = cond (eqb (code_for spelt fine) 0 && extra) n (code_for spelt fine)

pub three-of : (spelt fine : Bool) → code_for spelt fine ≡ 3 → spelt ≡ false
three-of true true e = absurd (omega arith)
three-of true false e = absurd (omega arith)
three-of false fine e = refl

pub four-of : (spelt fine : Bool) → code_for spelt fine ≡ 4 → fine ≡ false
four-of true true e = absurd (omega arith)
four-of true false e = refl
four-of false fine e = absurd (omega arith)

pub most-four : (spelt fine : Bool) → code_for spelt fine ≤ 4
most-four true true = omega arith
most-four true false = omega arith
most-four false fine = omega arith

module _ (n : ℕ) (high : 4 < n) where
  pub over-low : (spelt fine extra : Bool) (code : ℕ) → code ≤ 4 → over n spelt fine extra ≡ code → code_for spelt fine ≡ code
  over-low true true true code l e = absurd (omega arith)
  over-low true true false code l e = e
  over-low true false extra code l e = e
  over-low false fine extra code l e = e

  pub over-high : (spelt fine extra : Bool) (code : ℕ) → 4 < code → over n spelt fine extra ≡ code → (extra ≡ true) × (n ≡ code)
  over-high true true true code l e = (refl, e)
  over-high true true false code l e = absurd (omega arith)
  over-high true false extra code l e = absurd (omega arith)
  over-high false fine extra code l e = absurd (omega arith)

pub of_three : {spelt : Bool} (fine : Bool) → spelt ≡ false → code_for spelt fine ≡ 3
of_three fine e = rw e

pub of_four : {spelt fine : Bool} → spelt ≡ true → fine ≡ false → code_for spelt fine ≡ 4
of_four e f = rw (e, f)

pub over-three : (n : ℕ) {spelt : Bool} (fine extra : Bool) → spelt ≡ false → over n spelt fine extra ≡ 3
over-three n fine extra e = rw e

pub over-four : (n : ℕ) {spelt fine : Bool} (extra : Bool) → spelt ≡ true → fine ≡ false → over n spelt fine extra ≡ 4
over-four n extra e f = rw (e, f)

pub over-more : (n : ℕ) {spelt fine extra : Bool} → spelt ≡ true → fine ≡ true → extra ≡ true → over n spelt fine extra ≡ n
over-more n e f g = rw (e, f, g)

pub outside_of : (low high v : ℕ) → between low high v ≡ false → (v < low) ⊎ (high < v)
outside_of low high v e =
    by_le low v (λ l. by_le v high (λ m. true-false (and-of (le-leb low v l) (le-leb v high m)) e) (λ m. inr m)) (λ l. inl l)

pub of-outside : (low high v : ℕ) → (v < low) ⊎ (high < v) → between low high v ≡ false
of-outside low high v =
    ⊎_elim (λ l. rw (lt-leb low v l))
    (λ m. by_bool (leb low v) (λ e. rw (e, lt-leb v high m)) (λ e. rw e))
