-- The bit of a task's number.
use Prim.Native.Nat.{ℕ, ◌+◌, ◌-◌, ◌%◌, ◌^◌, ◌<◌}
use native.Mathlib.Nat.{mod-eq_of_lt}
use native.Mathlib.Omega.{arith}
use mathlib.Core.Path.{◌≡◌, sym, ◌∙◌}
use mathlib.Core.Bool.{Bool, cond}
use lib.Dec.{eqb, leb}
use lib.Pow.{pow_pos, pow-lt}
use borrow.Author.Tests.{eq-eqb, ne_eqb, leb-true, leb-false}
use Rattle.laws.proofs.Bits.{has-none, has-bit}
use Rattle.laws.proofs.Cases.{by_bool, by-eq}
use Rattle.laws.proofs.Gather.{ItsBit}

-- the number stands for bit d
abbrev pub named : ℕ → ℕ → Bool
named d number = eqb (d + 1) number

module _ (number : ℕ) (counted : 0 < number) where
  pub bit-number : cond (leb number 64) (2 ^ ((number - 1) % 64)) 0 ≡ cond (leb number 64) (2 ^ (number - 1)) 0
  bit-number =
      by_bool (leb number 64)
      (λ h. let low : number - 1 < 64 = omega (arith, leb-true number 64 h) in rw (h, mod-eq_of_lt low))
      (λ h. rw h)

  shift : (d : ℕ) → eqb (number - 1) d ≡ eqb (d + 1) number
  shift d =
      by-eq (d + 1) number
      (λ e. eq-eqb (number - 1) d (omega arith) ∙ sym (eq-eqb (d + 1) number e))
      (λ n. ne_eqb (number - 1) d (λ e. n (omega arith)) ∙ sym (ne_eqb (d + 1) number n))

  pub its-bit : {bit : ℕ} → bit ≡ cond (leb number 64) (2 ^ (number - 1)) 0 → ItsBit 64 named number bit
  its-bit {bit} e =
      by_bool (leb number 64)
      (λ h. record {
        small = let low : number - 1 < 64 = omega (arith, leb-true number 64 h) in rw (e, h) (pow-lt low);
        bits = λ d l. rw (e, h) (has-bit (number - 1) d ∙ shift d);
      })
      (λ h. record {
        small = rw (e, h) (pow_pos 64);
        bits = λ d l. rw (e, h) (has-none d ∙ sym (ne_eqb (d + 1) number (λ q. omega (arith, leb-false number 64 h))));
      })
