-- What stands in the places of a laid out array, and which lists are laid out.
use Prim.Native.Nat.{ℕ, ◌+◌, ◌<◌, ◌≤◌}
use native.Mathlib.Omega.{arith}
use mathlib.Core.List.{List}
use mathlib.Core.Path.{◌≡◌, refl, sym, ◌∙◌}
use lib.ListN.{length, set, replicate, length-replicate, get_or-replicate, get_or-eq_default}
use lib.Seq.{ext_get_or}
use Rattle.laws.proofs.Cases.{by_le}
use Rattle.laws.specs.Each.{each}
use Rattle.laws.proofs.Each.{each_turn, length-each, each-past, each_below, each-idle}
use Rattle.laws.proofs.Rows.{each_same}
use Rattle.plan.specs.Value.{at}
use Rattle.book_view.specs.View.{laid}

pub length-zeros : length (replicate {A = ℕ} 64 0) ≡ 64
length-zeros = length-replicate {A = ℕ} 64 0

pub at-zeros : (j : ℕ) → at (replicate 64 0) j ≡ 0
at-zeros j =
    by_le 64 j
    (λ l. get_or-eq_default {A = ℕ} (replicate 64 0) 0 {n = j} (omega (arith, length-zeros)))
    (λ l. get_or-replicate {A = ℕ} 64 j 0 0 l)

module _ (n : ℕ) (f : ℕ → ℕ) where
  pub length-laid : length (laid n f) ≡ 64
  unfolding laid
  length-laid = length-each n f (replicate 64 0) ∙ length-zeros

  pub laid-at : n ≤ 64 → (j : ℕ) → j < n → at (laid n f) j ≡ f j
  unfolding laid
  laid-at few j h = each_below n f (replicate 64 0) j 0 h (omega (arith, length-zeros))

  pub laid-past : (j : ℕ) → n ≤ j → at (laid n f) j ≡ 0
  unfolding laid
  laid-past j h = each-past n f (replicate 64 0) j 0 h ∙ at-zeros j

  -- f itself where f holds nothing past n
  pub laid-own : n ≤ 64 → ((j : ℕ) → n ≤ j → f j ≡ 0) → (j : ℕ) → at (laid n f) j ≡ f j
  laid-own few past j = by_le n j (λ h. laid-past j h ∙ sym (past j h)) (λ h. laid-at few j h)

  -- a list of 64 places with these values
  pub laid-is : (l : List ℕ) → n ≤ 64 → length l ≡ 64 → ((j : ℕ) → j < n → at l j ≡ f j) → ((j : ℕ) → n ≤ j → at l j ≡ 0) → l ≡ laid n f
  laid-is l few size here past =
      ext_get_or 0 l (laid n f) (size ∙ sym length-laid)
      (λ j h.
      by_le n j
      (λ q. past j q ∙ sym (laid-past j q))
      (λ q. here j q ∙ sym (laid-at few j q)))

pub laid_same : (n : ℕ) (f g : ℕ → ℕ) → ((j : ℕ) → j < n → f j ≡ g j) → laid n f ≡ laid n g
unfolding laid
laid_same n f g e = each_same n f g (replicate 64 0) e

pub zeros-laid : (n : ℕ) → replicate 64 0 ≡ laid n (λ i. 0)
unfolding laid
zeros-laid n = sym (each-idle n (λ i. 0) (replicate 64 0) 0 (λ i l. sym (at-zeros i)))

-- an array filled place by place
module _ (f : ℕ → ℕ) where
  pub laid-first : replicate 64 0 ≡ laid 0 f
  unfolding laid each
  laid-first = refl

  pub laid_more : (n : ℕ) {l : List ℕ} {v : ℕ} → l ≡ laid n f → v ≡ f n → set l n v ≡ laid (n + 1) f
  unfolding laid
  laid_more n e q = rw (e, q) (sym (each_turn n f (replicate 64 0)))
