-- A drive's places, filled task by task; and who is next.
use Prim.Native.Nat.{ℕ, zero, suc, ◌+◌, ◌-◌, ◌%◌, ◌≤◌, ◌<◌, min}
use native.Mathlib.Omega.{arith}
use mathlib.Core.Path.{◌≡◌, refl, sym, ap, ◌∙◌}
use mathlib.Core.Bool.{Bool, true, false, ◌&&◌}
use mathlib.Core.List.{List, [], ◌∷◌, ◌++◌}
use mathlib.Core.Logic.{◌≢◌}
use lib.Dec.{eqb, ltb}
use lib.ListN.{length, set, replicate, length-append, length-set, length-replicate, get_or-append}
use lib.Seq.{ext_get_or, get_or-set_same, get_or-set_other, get_or-append_seam}
use borrow.Author.Tests.{lt-ltb, le-ltb, eq-eqb, ne_eqb}
use Rattle.std.specs.Prelude.{Some, unwrap_or}
use Rattle.std.proofs.lemmas.Option.{none-some}
use lib.Pointwise.{pointwise}
use Rattle.laws.specs.Lists.{same}
use Rattle.laws.specs.Bits.{has}
use Rattle.laws.specs.Private.Nonzero.{nonzero}
use Rattle.laws.specs.Each.{each}
use Rattle.laws.proofs.Cases.{by_bool, by-eq, by_le, true-false, and_l, and_r}
use Rattle.laws.proofs.Each.{length-each, each_below}
use Rattle.laws.proofs.Rows.{each_same}
use Rattle.plan.specs.Value.{at}
use Rattle.book_view.proofs.Turns.{bit-seen}
use Rattle.book_view.proofs.Short.{at-past}
use Rattle.ask_sheet.specs.Sheet.{numbers, sooner, soonest, eight}
use Rattle.ask_sheet.proofs.Numbers.{numbers-taken, numbers-passed, soonest-more, sooner-low}

pub eight-length : (l : List ℕ) → length (eight l) ≡ 8
eight-length l = length-each 8 (at l) (replicate 8 0) ∙ length-replicate {A = ℕ} 8 0

pub eight-at : (l : List ℕ) (i : ℕ) → i < 8 → at (eight l) i ≡ at l i
eight-at l i h = each_below 8 (at l) (replicate 8 0) i 0 h (omega (arith, length-replicate {A = ℕ} 8 0))

append_at : (l : List ℕ) (x i : ℕ) → i < length l → at (l ++ (x ∷ [])) i ≡ at l i
append_at l x i h = get_or-append l (x ∷ []) 0 i h

append-past : (l : List ℕ) (x i : ℕ) → length l < i → at (l ++ (x ∷ [])) i ≡ at l i
append-past l x i h =
    at-past (l ++ (x ∷ [])) i (omega (arith, length-append l (x ∷ []))) ∙ sym (at-past l i (omega arith))

pub eight-more : (l : List ℕ) (x : ℕ) → length l < 8 → set (eight l) (length l) x ≡ eight (l ++ (x ∷ []))
eight-more l x h =
    ext_get_or 0 (set (eight l) (length l) x) (eight (l ++ (x ∷ [])))
    (length-set (eight l) (length l) x ∙ eight-length l ∙ sym (eight-length (l ++ (x ∷ []))))
    (λ i q. let low : i < 8 = omega (arith, length-set (eight l) (length l) x, eight-length l) in
    by-eq i (length l)
    (λ e. rw e (get_or-set_same (eight l) (length l) x 0 (omega (arith, eight-length l)) ∙ sym (eight-at (l ++ (x ∷ [])) (length l) h ∙ get_or-append_seam l x [] 0)))
    (λ ne.
    get_or-set_other (eight l) (length l) i x 0 ne ∙ eight-at l i low
    ∙ by_le (length l) i (λ le. sym (append-past l x i (omega arith))) (λ lt. sym (append_at l x i lt))
    ∙ sym (eight-at (l ++ (x ∷ [])) i low)))

pub eight-full : (l : List ℕ) (x : ℕ) → 8 ≤ length l → eight (l ++ (x ∷ [])) ≡ eight l
eight-full l x h = each_same 8 (at (l ++ (x ∷ []))) (at l) (replicate 8 0) (λ i low. append_at l x i (omega arith))

-- the places filled with the first k tasks looked at
pub record LineTo (k members : ℕ) (line : List ℕ) (count : ℕ) : Type 0 where
  pub places : line ≡ eight (numbers k (has members))
  pub filled : count ≡ min 8 (length (numbers k (has members)))

module _ (k bits : ℕ) {line : List ℕ} {count : ℕ} (inv : LineTo k bits line count) {b : Bool} (low : k < 64) (seen : b ≡ has bits (k % 64)) where
  pub line_taken :
      (b && ltb count 8) ≡ true → {next : List ℕ} → next ≡ set line count (k + 1) → {more : ℕ} → more ≡ count + 1
      → LineTo (k + 1) bits next more
  line_taken h {next} e {more} s =
      let t : has bits k ≡ true = sym (bit-seen k bits low seen) ∙ and_l b (ltb count 8) h in
      let q = numbers-taken k (has bits) t in
      let l = numbers k (has bits) in
      by_le 8 count
      (λ le. true-false (and_r b (ltb count 8) h) (le-ltb count 8 le))
      (λ lt.
      let c : count ≡ length l = omega (arith, inv.filled) in
      record {
        places = e ∙ rw (inv.places, c) (eight-more l (k + 1) (omega arith)) ∙ ap eight (sym q);
        filled = omega (arith, inv.filled, ap length q, length-append l ((k + 1) ∷ []));
      })

  stays : (b && ltb count 8) ≡ false → LineTo (k + 1) bits line count
  stays h =
      let l = numbers k (has bits) in
      by_bool (has bits k)
      (λ t.
      let q = numbers-taken k (has bits) t in
      let full : ltb count 8 ≡ false = rw (bit-seen k bits low seen ∙ t) at h in
      by_le 8 count
      (λ le.
      let c : 8 ≤ length l = omega (arith, inv.filled) in
      record {
        places = inv.places ∙ sym (eight-full l (k + 1) c) ∙ ap eight (sym q);
        filled = omega (arith, inv.filled, ap length q, length-append l ((k + 1) ∷ []));
      })
      (λ lt. true-false (lt-ltb count 8 lt) full))
      (λ t. let q = numbers-passed k (has bits) t in record { places = inv.places ∙ ap eight (sym q); filled = inv.filled ∙ ap (λ (x : List ℕ). min 8 (length x)) (sym q) })

  pub line-passed :
      (b && ltb count 8) ≡ false → {next : List ℕ} → next ≡ line → {more : ℕ} → more ≡ count → LineTo (k + 1) bits next more
  line-passed h e s = let kept = stays h in record { places = e ∙ kept.places; filled = s ∙ kept.filled }

pub room : (b : Bool) (n : ℕ) → (b && ltb n 8) ≡ true → n < 8
room b n h = by_le 8 n (λ le. true-false (and_r b (ltb n 8) h) (le-ltb n 8 le)) (λ lt. lt)

pub line-start : (bits : ℕ) → LineTo 0 bits (replicate 8 0) 0
unfolding numbers each
line-start bits = record { places = refl; filled = refl }

-- who is next, with the first k tasks looked at
pub record FirstTo (f : ℕ → ℕ) (k bits first : ℕ) : Type 0 where
  pub is : first ≡ soonest f 0 (numbers k (has bits))
  pub low : first ≤ k

module _ (f : ℕ → ℕ) (k bits : ℕ) {first : ℕ} (inv : FirstTo f k bits first) {b : Bool} (low : k < 64) (seen : b ≡ has bits (k % 64)) where
  pub first_taken : b ≡ true → {next : ℕ} → next ≡ sooner f first (k + 1) → FirstTo f (k + 1) bits next
  first_taken h {next} e =
      let t : has bits k ≡ true = sym (bit-seen k bits low seen) ∙ h in
      record {
        is = e ∙ ap (λ (x : ℕ). sooner f x (k + 1)) inv.is ∙ sym (soonest-more f 0 (k + 1) (numbers k (has bits))) ∙ ap (soonest f 0) (sym (numbers-taken k (has bits) t));
        low = rw e (sooner-low f first (k + 1) (k + 1) (omega (arith, inv.low)) (omega arith));
      }

  pub first-passed : b ≡ false → {next : ℕ} → next ≡ first → FirstTo f (k + 1) bits next
  first-passed h e =
      let t : has bits k ≡ false = sym (bit-seen k bits low seen) ∙ h in
      record { is = e ∙ inv.is ∙ ap (soonest f 0) (sym (numbers-passed k (has bits) t)); low = omega (arith, inv.low) }

pub first-start : (f : ℕ → ℕ) (bits : ℕ) → FirstTo f 0 bits 0
unfolding numbers soonest
first-start f bits = record { is = refl; low = omega arith }

-- the sooner of two, by the tests that led there
module _ (f : ℕ → ℕ) (a k : ℕ) where
  back : f (k + 1 - 1) ≡ f k
  back = let e : k + 1 - 1 ≡ k = omega arith in ap f e

  pub sooner-first : a ≡ 0 → k + 1 ≡ sooner f a (k + 1)
  sooner-first z = rw (eq-eqb a 0 z)

  pub sooner-less : a ≢ 0 → f k < f (a - 1) → k + 1 ≡ sooner f a (k + 1)
  sooner-less z h = rw (ne_eqb a 0 z, back, lt-ltb (f k) (f (a - 1)) h)

  pub sooner-kept : a ≢ 0 → f (a - 1) ≤ f k → a ≡ sooner f a (k + 1)
  sooner-kept z h = rw (ne_eqb a 0 z, back, le-ltb (f k) (f (a - 1)) h)

-- of two one is
pub sooner-some : (f : ℕ → ℕ) (a k : ℕ) {r : ℕ} → r ≡ sooner f a (k + 1) → Some r ≡ nonzero r
sooner-some f a k {r} e = above r positive
  where
    positive : 0 < r
    positive =
        by-eq a 0
        (λ z. let s = sooner-first f a k z in omega (arith, e, s))
        (λ ne.
        by_le (f (a - 1)) (f k)
        (λ le. let s = sooner-kept f a k ne le in omega (arith, e, s, ne))
        (λ lt. let s = sooner-less f a k ne lt in omega (arith, e, s)))

    above : (n : ℕ) → 0 < n → Some n ≡ nonzero n
    above zero h = absurd (omega arith)
    above (suc n) h = refl

pub some-above : (n : ℕ) → Some n ≡ nonzero n → n ≢ 0
some-above zero h z = none-some _ (sym h)
some-above (suc n) h z = absurd (omega arith)

pub nonzero-number : (n : ℕ) → unwrap_or (nonzero n) 0 ≡ n
nonzero-number zero = refl
nonzero-number (suc n) = refl

-- two texts have the same bytes where they are equal byte by byte
pub same-bytes : (s t : List ℕ) → pointwise eqb s t ≡ same s t
unfolding same
same-bytes [] [] = refl
same-bytes [] (b ∷ t) = refl
same-bytes (a ∷ s) [] = refl
same-bytes (a ∷ s) (b ∷ t) = ap (λ (x : Bool). eqb a b && x) (same-bytes s t)
