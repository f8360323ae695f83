-- Tests and folds over tasks look no further than an array's places.
use Prim.Native.Nat.{ℕ, zero, suc, ◌≤◌, min}
use native.Mathlib.Omega.{arith}
use mathlib.Core.Bool.{Bool, true}
use mathlib.Core.List.{List}
use mathlib.Core.Path.{◌≡◌, sym, ap, ◌∙◌}
use lib.ListN.{length, get_or-eq_default}
use Rattle.laws.proofs.Cases.{by-eq, by_le}
use Rattle.laws.specs.Every.{every}
use Rattle.plan.specs.Value.{at}

-- past its last place a list holds nothing
pub at-past : (l : List ℕ) (j : ℕ) → length l ≤ j → at l j ≡ 0
at-past l j h = get_or-eq_default l 0 {n = j} h

module _ (A : Type 0) (most : ℕ) (fold : ℕ → A) (stays : (n : ℕ) → most ≤ n → fold (suc n) ≡ fold n) where
  onward : (n : ℕ) → most ≤ n → fold n ≡ fold most
  onward zero h = let e : zero ≡ most = omega arith in ap fold e
  onward (suc n) h =
      by-eq (suc n) most
      (λ e. ap fold e)
      (λ ne. stays n (omega arith) ∙ onward n (omega arith))

  pub short : (n : ℕ) → fold (min n most) ≡ fold n
  short n =
      by_le n most
      (λ h. let e : min n most ≡ n = omega arith in ap fold e)
      (λ h. let e : min n most ≡ most = omega arith in ap fold e ∙ sym (onward n (omega arith)))

module _ (most n : ℕ) where
  pub every-short : (p : ℕ → Bool) → ((j : ℕ) → most ≤ j → p j ≡ true) → every (min n most) p ≡ every n p
  unfolding every
  every-short p all = short _ most (λ m. every m p) (λ m h. rw (all m h)) n
