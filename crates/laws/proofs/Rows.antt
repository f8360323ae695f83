-- Rows of one width: what a row of rows holds, what stands past the last, and that the rows are the list.
use Prim.Native.Nat.{ℕ, zero, suc, ◌+◌, ◌-◌, ◌*◌, ◌<◌, ◌≤◌}
use mathlib.Core.List.{List, [], ◌∷◌, ◌++◌}
use mathlib.Core.Path.{◌≡◌, refl, sym, ap, ◌∙◌}
use lib.ListN.{length, take, drop, get_or, set, take-append-drop}
use lib.Seq.{sets, take-set-le, take-set-lt, drop-set-lt, drop-set-add, take-nil, take-add, ext_get_or, get_or-drop}
use native.Mathlib.Nat.{mul-zero, mul-suc, mul-le-mul_left, zero-add}
use native.Mathlib.Omega.{arith}
use Rattle.laws.specs.Each.{each, rows}
use Rattle.laws.proofs.Cases.{by-eq, by_le}
use Rattle.laws.proofs.Each.{length-each, each_below, each-past}

module _ {A : Type 0} where
  -- ---- a run of stores, cut before it, after it, at it and around it

  pub take-sets-le : (m : ℕ) (l : List A) (i : ℕ) (vs : List A) → m ≤ i → take m (sets l i vs) ≡ take m l
  take-sets-le m l i [] h = refl
  take-sets-le m l i (a ∷ vs) h = take-sets-le m (set l i a) (suc i) vs (omega arith) ∙ take-set-le m l i a h

  pub drop-sets-past : (m : ℕ) (l : List A) (i : ℕ) (vs : List A) → i + length vs ≤ m → drop m (sets l i vs) ≡ drop m l
  drop-sets-past m l i [] h = refl
  drop-sets-past m l i (a ∷ vs) h =
      drop-sets-past m (set l i a) (suc i) vs (omega arith) ∙ drop-set-lt m l i a (omega arith)

  pub drop-sets-at : (n : ℕ) (l : List A) (i : ℕ) (vs : List A) → drop n (sets l (n + i) vs) ≡ sets (drop n l) i vs
  drop-sets-at n l i [] = refl
  drop-sets-at n l i (a ∷ vs) =
      let e : suc (n + i) ≡ n + suc i = omega arith in
      rw e (drop-sets-at n (set l (n + i) a) (suc i) vs ∙ rw drop-set-add)

  pub take-sets-in :
      (n : ℕ) (l : List A) (i : ℕ) (vs : List A) → i + length vs ≤ n → take n (sets l i vs) ≡ sets (take n l) i vs
  take-sets-in n l i [] h = refl
  take-sets-in n l i (a ∷ vs) h =
      take-sets-in n (set l i a) (suc i) vs (omega arith) ∙ rw (take-set-lt n l i a (omega arith))

  take-drop : (a w : ℕ) (l : List A) → take w (drop a l) ≡ drop a (take (a + w) l)
  take-drop zero w l = rw zero-add
  take-drop (suc a) w [] = take-nil w ∙ sym (ap (drop (suc a)) (take-nil (suc a + w)))
  take-drop (suc a) w (x ∷ l) = let e : suc a + w ≡ suc (a + w) = omega arith in rw e (take-drop a w l)

  -- ---- rows

  abbrev pub row_at : ℕ → List A → ℕ → List A
  row_at width l k = take width (drop (width * k) l)

  module _ (width : ℕ) (f : ℕ → List A) (l : List A) where
    pub rows-past :
        (n m : ℕ) → width * n ≤ m → ((k : ℕ) → k < n → length (f k) ≤ width) → drop m (rows width n f l) ≡ drop m l
    unfolding rows
    rows-past zero m h fits = refl
    rows-past (suc n) m h fits =
        let h' : width * n + width ≤ m = rw mul-suc at h in
        let w = fits n (omega arith) in
        drop-sets-past m (rows width n f l) (width * n) (f n) (omega arith)
        ∙ rows-past n m (omega arith) (λ k lt. fits k (omega arith))

    -- a row of rows
    pub row-of-rows :
        (n k : ℕ) → k < n → ((j : ℕ) → j < n → length (f j) ≤ width)
        → row_at width (rows width n f l) k ≡ sets (row_at width l k) 0 (f k)
    unfolding rows
    row-of-rows zero k h fits = absurd (omega arith)
    row-of-rows (suc n) k h fits = by-eq k n (λ e. rw e last) (λ ne. before (omega arith) (row-of-rows n k (omega arith) less))
      where
        less : (j : ℕ) → j < n → length (f j) ≤ width
        less j lt = fits j (omega arith)

        last : row_at width (sets (rows width n f l) (width * n) (f n)) n ≡ sets (row_at width l n) 0 (f n)
        last =
            let e : width * n ≡ width * n + 0 = omega arith in
            let w = fits n (omega arith) in
            ap (λ (i : ℕ). take width (drop (width * n) (sets (rows width n f l) i (f n)))) e
            ∙ ap (take width) (drop-sets-at (width * n) (rows width n f l) 0 (f n))
            ∙ take-sets-in width (drop (width * n) (rows width n f l)) 0 (f n) (omega arith)
            ∙ ap (λ (r : List A). sets (take width r) 0 (f n)) (rows-past n (width * n) (omega arith) less)

        before :
            k < n → row_at width (rows width n f l) k ≡ sets (row_at width l k) 0 (f k)
            → row_at width (sets (rows width n f l) (width * n) (f n)) k ≡ sets (row_at width l k) 0 (f k)
        before lt ih =
            let m : width * suc k ≤ width * n = mul-le-mul_left width lt in
            let m' : width * k + width ≤ width * n = rw mul-suc at m in
            take-drop (width * k) width (sets (rows width n f l) (width * n) (f n))
            ∙ ap (drop (width * k)) (take-sets-le (width * k + width) (rows width n f l) (width * n) (f n) m')
            ∙ sym (take-drop (width * k) width (rows width n f l))
            ∙ ih

  -- two lists with the same rows and the same past the last are one
  module _ (width : ℕ) (l m : List A) where
    fronts :
        (n : ℕ) → ((k : ℕ) → k < n → row_at width l k ≡ row_at width m k) → take (width * n) l ≡ take (width * n) m
    fronts zero e = rw mul-zero
    fronts (suc n) e =
        rw (
          mul-suc,
          take-add (width * n) width l,
          take-add (width * n) width m,
          fronts n (λ k lt. e k (omega arith)),
          e n (omega arith),
        )

    pub rows_ext :
        (n : ℕ) → ((k : ℕ) → k < n → row_at width l k ≡ row_at width m k) → drop (width * n) l ≡ drop (width * n) m → l ≡ m
    rows_ext n e p =
        let q = fronts n e in
        let r : take (width * n) l ++ drop (width * n) l ≡ take (width * n) m ++ drop (width * n) m = cc in
        sym (take-append-drop (width * n) l) ∙ r ∙ take-append-drop (width * n) m

  -- ---- only the rows and places below n count

  pub rows_same :
      (width n : ℕ) (f g : ℕ → List A) (l : List A) → ((k : ℕ) → k < n → f k ≡ g k) → rows width n f l ≡ rows width n g l
  unfolding rows
  rows_same width zero f g l e = refl
  rows_same width (suc n) f g l e = rw (rows_same width n f g l (λ k h. e k (omega arith)), e n (omega arith))

  pub each_same : (n : ℕ) (f g : ℕ → A) (l : List A) → ((k : ℕ) → k < n → f k ≡ g k) → each n f l ≡ each n g l
  unfolding each
  each_same zero f g l e = refl
  each_same (suc n) f g l e = rw (each_same n f g l (λ k h. e k (omega arith)), e n (omega arith))

  pub each_from : (n m : ℕ) (f : ℕ → A) (l : List A) → n ≤ m → drop m (each n f l) ≡ drop m l
  unfolding each
  each_from zero m f l h = refl
  each_from (suc n) m f l h = drop-set-lt m (each n f l) n (f n) h ∙ each_from n m f l (omega arith)

  -- a list's own places, and what stands past them, are the list
  pub each-own :
      (n : ℕ) (l z : List A) (d : A) → length l ≡ length z → drop n l ≡ drop n z → each n (λ k. get_or l k d) z ≡ l
  each-own n l z d e p =
      ext_get_or d (each n (λ k. get_or l k d) z) l (length-each n (λ k. get_or l k d) z ∙ sym e)
      (λ i h.
      let h' : i < length z = rw length-each at h in
      by_le n i
      (λ past.
      let q : i ≡ n + (i - n) = omega arith in
      each-past n (λ k. get_or l k d) z i d past
      ∙ ap (λ (j : ℕ). get_or z j d) q
      ∙ sym (get_or-drop n z (i - n) d)
      ∙ ap (λ (r : List A). get_or r (i - n) d) (sym p)
      ∙ get_or-drop n l (i - n) d
      ∙ ap (λ (j : ℕ). get_or l j d) (sym q))
      (λ below. each_below n (λ k. get_or l k d) z i d below h'))
