-- Rows of eight and single places, written one after the other, some of them left as they stand.
use Prim.Native.Nat.{ℕ, ◌+◌, ◌*◌, ◌≤◌, ◌<◌}
use native.Mathlib.Omega.{arith}
use mathlib.Core.Path.{◌≡◌, sym, ap, ◌∙◌}
use mathlib.Core.List.{List, [], ◌++◌, append_assoc, append-nil}
use lib.ListN.{length, take, drop, length-take, length-drop, take-append-drop, drop_of_length-le}
use lib.Seq.{sets, sets-eq, ext_get_or, drop-drop}
use Rattle.laws.specs.Each.{each, rows}
use Rattle.laws.proofs.Blank.{sets-front}
use Rattle.laws.proofs.Each.{rows-turn, length-rows, length-each, each_below}
use Rattle.laws.proofs.Rows.{row_at, rows-past, row-of-rows, rows_ext}

-- what stands at a place, stored there again
sets-own : (l : List ℕ) (i w : ℕ) → i + w ≤ length l → sets l i (take w (drop i l)) ≡ l
sets-own l i w h =
    let n : length (take w (drop i l)) ≡ w = length-take w (drop i l) ∙ omega (arith, length-drop i l) in
    sets-eq (take w (drop i l)) l i (omega arith)
    ∙ append_assoc (take i l) (take w (drop i l)) (drop (i + length (take w (drop i l))) l)
    ∙ ap (λ (k : ℕ). take i l ++ (take w (drop i l) ++ drop (i + k) l)) n
    ∙ ap (λ (r : List ℕ). take i l ++ (take w (drop i l) ++ r)) (sym (drop-drop w i l))
    ∙ ap (λ (r : List ℕ). take i l ++ r) (take-append-drop w (drop i l))
    ∙ take-append-drop i l

module _ (f : ℕ → List ℕ) (l : List ℕ) where
  -- a row that is left as it stands
  pub rows-skip :
      (d : ℕ) → 8 * d + 8 ≤ length l → ((j : ℕ) → j < d → length (f j) ≤ 8) → f d ≡ row_at 8 l d
      → rows 8 d f l ≡ rows 8 (d + 1) f l
  rows-skip d h fits e =
      let past : drop (8 * d) (rows 8 d f l) ≡ drop (8 * d) l = rows-past 8 f l d (8 * d) (omega arith) fits in
      sym (rows-turn 8 d f l ∙ ap (sets (rows 8 d f l) (8 * d)) (e ∙ ap (take 8) (sym past))
      ∙ sets-own (rows 8 d f l) (8 * d) 8 (omega (arith, length-rows 8 d f l)))

  module _ (size : length l ≡ 256) (eights : (j : ℕ) → j < 32 → length (f j) ≡ 8) where
    -- a row that is written
    pub row_is : (k : ℕ) → k < 32 → row_at 8 (rows 8 32 f l) k ≡ f k
    row_is k h =
        let e = eights k h in
        let n : length (row_at 8 l k) ≡ 8 = length-take 8 (drop (8 * k) l) ∙ omega (arith, length-drop (8 * k) l) in
        row-of-rows 8 f l 32 k h (λ j q. omega (arith, eights j q))
        ∙ sets-front (f k) (row_at 8 l k) (omega arith)
        ∙ ap (λ (r : List ℕ). f k ++ r) (drop_of_length-le (row_at 8 l k) {i = length (f k)} (omega arith))
        ∙ append-nil (f k)

    pub rows_end : drop (8 * 32) (rows 8 32 f l) ≡ []
    rows_end = rows-past 8 f l 32 (8 * 32) (omega arith) (λ j q. omega (arith, eights j q)) ∙ drop_of_length-le l {i = 8 * 32} (omega arith)

-- all rows written: what stood there before is gone
pub rows-over :
    (f g : ℕ → List ℕ) (l m : List ℕ) → length l ≡ 256 → length m ≡ 256 → ((j : ℕ) → length (g j) ≡ 8)
    → ((j : ℕ) → j < 32 → f j ≡ g j) → rows 8 32 f l ≡ rows 8 32 g m
rows-over f g l m p q all same =
    let e₁ : (j : ℕ) → j < 32 → length (f j) ≡ 8 = λ j h. ap length (same j h) ∙ all j in
    let e₂ : (j : ℕ) → j < 32 → length (g j) ≡ 8 = λ j h. all j in
    rows_ext 8 (rows 8 32 f l) (rows 8 32 g m) 32 (λ k h. row_is f l p e₁ k h ∙ same k h ∙ sym (row_is g m q e₂ k h))
    (rows_end f l p e₁ ∙ sym (rows_end g m q e₂))

pub each_over :
    (n : ℕ) (f g : ℕ → ℕ) (l m : List ℕ) → length l ≡ n → length m ≡ n → ((j : ℕ) → j < n → f j ≡ g j) → each n f l ≡ each n g m
each_over n f g l m p q same =
    ext_get_or 0 (each n f l) (each n g m) (length-each n f l ∙ p ∙ sym (length-each n g m ∙ q))
    (λ i h.
    let low : i < n = omega (arith, length-each n f l) in
    each_below n f l i 0 low (omega arith) ∙ same i low ∙ sym (each_below n g m i 0 low (omega arith)))

-- rows that are as they stand
pub rows_stay :
    (f : ℕ → List ℕ) (l : List ℕ) → length l ≡ 256 → ((j : ℕ) → length (f j) ≡ 8) → ((j : ℕ) → j < 32 → f j ≡ row_at 8 l j) → rows 8 32 f l ≡ l
rows_stay f l p all same =
    let e : (j : ℕ) → j < 32 → length (f j) ≡ 8 = λ j h. all j in
    rows_ext 8 (rows 8 32 f l) l 32 (λ k h. row_is f l p e k h ∙ same k h) (rows_end f l p e ∙ sym (drop_of_length-le l {i = 8 * 32} (omega arith)))
