-- What a list filled place by place, or row by row, holds.
use Prim.Native.Nat.{ℕ, zero, suc, ◌+◌, ◌*◌, ◌<◌, ◌≤◌}
use mathlib.Core.List.{List}
use mathlib.Core.Path.{◌≡◌, refl, ◌∙◌}
use lib.ListN.{length, get_or, set, length-set}
use lib.Seq.{get_or-set_same, get_or-set_other, set-get_or, sets, length-sets}
use native.Mathlib.Omega.{arith}
use native.Mathlib.Numerals.{add-one}
use Rattle.laws.specs.Each.{each, rows}
use Rattle.laws.proofs.Cases.{by-eq}

module _ {A : Type 0} where
  pub each_turn : (n : ℕ) (f : ℕ → A) (l : List A) → each (n + 1) f l ≡ set (each n f l) n (f n)
  unfolding each
  each_turn n f l = rw add-one

  pub length-each : (n : ℕ) (f : ℕ → A) (l : List A) → length (each n f l) ≡ length l
  unfolding each
  length-each zero f l = refl
  length-each (suc n) f l = length-set (each n f l) n (f n) ∙ length-each n f l

  pub each-past : (n : ℕ) (f : ℕ → A) (l : List A) (i : ℕ) (d : A) → n ≤ i → get_or (each n f l) i d ≡ get_or l i d
  unfolding each
  each-past zero f l i d h = refl
  each-past (suc n) f l i d h =
      get_or-set_other (each n f l) n i (f n) d (λ e. omega arith) ∙ each-past n f l i d (omega arith)

  pub each_below : (n : ℕ) (f : ℕ → A) (l : List A) (i : ℕ) (d : A) → i < n → i < length l → get_or (each n f l) i d ≡ f i
  unfolding each
  each_below zero f l i d h k = absurd (omega arith)
  each_below (suc n) f l i d h k =
      by-eq i n
      (λ e. rw (e, get_or-set_same (each n f l) n (f n) d (omega (arith, length-each n f l))))
      (λ ne. get_or-set_other (each n f l) n i (f n) d ne ∙ each_below n f l i d (omega arith) k)

  each_none : (f : ℕ → A) (l : List A) → each 0 f l ≡ l
  unfolding each
  each_none f l = refl

  each-stays : (n : ℕ) (f : ℕ → A) (l : List A) (d : A) → f n ≡ get_or l n d → each (suc n) f l ≡ each n f l
  unfolding each
  each-stays n f l d e = rw (e, ← each-past n f l n d (omega arith), set-get_or)

  -- a turn that stores nothing
  pub each-skip : (n : ℕ) (f : ℕ → A) (l : List A) (d : A) → f n ≡ get_or l n d → each n f l ≡ each (n + 1) f l
  unfolding each
  each-skip n f l d e = rw (add-one, each-stays n f l d e)

  -- no value differs from what was there
  pub each-idle : (n : ℕ) (f : ℕ → A) (l : List A) (d : A) → ((i : ℕ) → i < n → f i ≡ get_or l i d) → each n f l ≡ l
  each-idle zero f l d h = each_none f l
  each-idle (suc n) f l d h =
      let e : each (suc n) f l ≡ each n f l = each-stays n f l d (h n (omega arith)) in
      e ∙ each-idle n f l d (λ i k. h i (omega arith))

  pub rows-turn :
      (width n : ℕ) (f : ℕ → List A) (l : List A) → rows width (n + 1) f l ≡ sets (rows width n f l) (width * n) (f n)
  unfolding rows
  rows-turn width n f l = rw add-one

  pub length-rows : (width n : ℕ) (f : ℕ → List A) (l : List A) → length (rows width n f l) ≡ length l
  unfolding rows
  length-rows width zero f l = refl
  length-rows width (suc n) f l = length-sets (rows width n f l) (width * n) (f n) ∙ length-rows width n f l
