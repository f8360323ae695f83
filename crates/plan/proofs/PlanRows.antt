-- The lists of a plan's tasks in its arrays: items first, nothing past the last item, nothing past the last task.
use Prim.Native.Nat.{ℕ, ◌+◌, ◌-◌, ◌*◌, ◌<◌, ◌≤◌}
use mathlib.Core.List.{List, ◌++◌}
use mathlib.Core.Path.{◌≡◌, sym, ap, ◌∙◌}
use mathlib.Core.Bool.{true}
use lib.ListN.{length, take, drop, get_or, replicate, length-take, length-drop, take-append-drop}
use lib.Seq.{length-take-le}
use native.Mathlib.Omega.{arith}
use native.Mathlib.Nat.{mul-le-mul_left, mul-suc}
use Rattle.laws.specs.Each.{each, rows}
use Rattle.laws.proofs.Rows.{rows-past, row-of-rows, rows_ext, each_from, each-own}
use lib.Dec.{eqb}
use Rattle.laws.proofs.Lists.{all_drop, all_take}
use Rattle.laws.proofs.Blank.{blank, blank-same, blank-zeros, length-zeros, before-blank, blank-after, sets-front}
use Rattle.laws.specs.Split.{index_of}
use Rattle.laws.proofs.Split.{free, index-le}
use Rattle.plan.specs.Value.{row, items, blank_from, is_trimmed}

-- the places of task k, cut out
pub part-row : (width k : ℕ) (l : List ℕ) → take (width * k + width - width * k) (drop (width * k) l) ≡ row width l k
part-row width k l = let e : width * k + width - width * k ≡ width = omega arith in rw e

-- ---- stored in an array of zeros

abbrev zeros : ℕ → List ℕ
zeros size = replicate size 0

zeros-past : (size n : ℕ) → blank (drop n (zeros size)) ≡ true
zeros-past size n = all_drop (eqb 0) n (zeros size) (blank-zeros size)

zeros-row : (size width k n : ℕ) → blank (drop n (row width (zeros size) k)) ≡ true
zeros-row size width k n =
    all_drop (eqb 0) n (row width (zeros size) k)
    (all_take (eqb 0) width (drop (width * k) (zeros size)) (zeros-past size (width * k)))

-- numbers: nothing is kept past the last task
pub each-blank : (size n : ℕ) (f : ℕ → ℕ) → blank_from n (each n f (replicate size 0)) ≡ true
unfolding blank_from
each-blank size n f = ap blank (each_from n n f (zeros size) (omega arith)) ∙ zeros-past size n

-- lists: a row has its list's items and nothing past the last, and nothing is kept past the last task
pub record RowsMade (width n : ℕ) (f : ℕ → List ℕ) (l : List ℕ) : Type 0 where
  pub has : (k : ℕ) → k < n → items (row width l k) ≡ f k
  pub trimmed : (k : ℕ) → k < n → is_trimmed (row width l k) ≡ true
  pub past : blank_from (width * n) l ≡ true

pub rows_made :
    (size width n : ℕ) (f : ℕ → List ℕ) → width * n ≤ size → ((k : ℕ) → k < n → length (f k) ≤ width)
    → ((k : ℕ) → k < n → free 0 (f k) ≡ true) → RowsMade width n f (rows width n f (replicate size 0))
unfolding blank_from
rows_made size width n f room fits clean = record {
  has = λ k h. ap items (row_is k h) ∙ before-blank (f k) (rest k) (clean k h) (zeros-row size width k (length (f k)));
  trimmed = λ k h. ap is_trimmed (row_is k h) ∙ blank-after (f k) (rest k) (clean k h) (zeros-row size width k (length (f k)));
  past = ap blank (rows-past width f (zeros size) n (width * n) (omega arith) fits) ∙ zeros-past size (width * n);
}
  where
    rest : ℕ → List ℕ
    rest k = drop (length (f k)) (row width (zeros size) k)

    row_is : (k : ℕ) → k < n → row width (rows width n f (zeros size)) k ≡ f k ++ rest k
    row_is k h =
        let w = fits k h in
        let m : width * k + width ≤ width * n = rw mul-suc at (mul-le-mul_left width h) in
        row-of-rows width f (zeros size) n k h fits
        ∙ sets-front (f k) (row width (zeros size) k) (simp (length-take, length-drop, length-zeros) (omega arith))

-- ---- and taken out again

module _ (l : List ℕ) (size : ℕ) (sized : length l ≡ size) (n : ℕ) where
  -- the numbers of the tasks are the array
  pub own-places : blank_from n l ≡ true → each n (λ k. get_or l k 0) (replicate size 0) ≡ l
  unfolding blank_from
  own-places past =
      each-own n l (zeros size) 0 (sized ∙ sym (length-zeros size))
      (blank-same (drop n l) (drop n (zeros size)) past (zeros-past size n) (simp (length-drop, length-zeros) (omega arith)))

  -- the lists of the tasks are the array
  module _ (width : ℕ) (trimmed : (k : ℕ) → k < n → is_trimmed (row width l k) ≡ true) (past : blank_from (width * n) l ≡ true) where
    fits : (k : ℕ) → k < n → length (items (row width l k)) ≤ width
    fits k h = simp length-take (omega arith)

    own_row : (k : ℕ) → k < n → row width (rows width n (λ j. items (row width l j)) (zeros size)) k ≡ row width l k
    unfolding blank_from
    own_row k h =
        let r : List ℕ = row width l k in
        let z : List ℕ = row width (zeros size) k in
        let same : length z ≡ length r = simp (length-take, length-drop, length-zeros) (omega arith) in
        let i : length (items r) ≡ index_of 0 r = length-take-le (index_of 0 r) r (index-le 0 r) in
        let b : drop (length (items r)) z ≡ drop (index_of 0 r) r =
        blank-same (drop (length (items r)) z) (drop (index_of 0 r) r) (zeros-row size width k (length (items r)))
        (trimmed k h) (simp length-drop (omega arith)) in
        row-of-rows width (λ j. items (row width l j)) (zeros size) n k h fits
        ∙ sets-front (items r) z (omega (arith, index-le 0 r))
        ∙ ap (λ (x : List ℕ). items r ++ x) b
        ∙ take-append-drop (index_of 0 r) r

    pub own-rows : rows width n (λ k. items (row width l k)) (replicate size 0) ≡ l
    unfolding blank_from
    own-rows =
        rows_ext width (rows width n (λ k. items (row width l k)) (zeros size)) l n own_row
        (rows-past width (λ k. items (row width l k)) (zeros size) n (width * n) (omega arith) fits
        ∙ blank-same (drop (width * n) (zeros size)) (drop (width * n) l) (zeros-past size (width * n)) past
        (simp (length-drop, length-zeros) (omega arith)))
