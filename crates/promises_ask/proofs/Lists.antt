-- The numbers of those picked: who is among them, that they rise, and who is soonest.
use Prim.Native.Nat.{ℕ, zero, suc, ◌+◌, ◌-◌, ◌≤◌, ◌<◌}
use native.Mathlib.Numerals.{add-one}
use native.Mathlib.Omega.{arith}
use mathlib.Core.Path.{◌≡◌, refl, sym, ap, subst, ◌∙◌}
use mathlib.Core.Bool.{Bool, true, false, not}
use mathlib.Core.List.Memᴰ
use mathlib.Core.List.{List, [], ◌∷◌, ◌++◌, Memᴰ}
use mathlib.Core.Logic.{◌⊎◌, inl, inr, ⊎_elim}
use lib.Dec.{eqb}
use lib.ListN.{length, get_or, replicate, length-append, length-replicate, get_or-replicate, get_or-append}
use lib.Seq.{ext_get_or, get_or-append_seam, get_or-append-add}
use borrow.Author.Tests.{ne_eqb}
use Rattle.laws.specs.Lists.{all_of}
use Rattle.laws.proofs.Blank.{before-blank, blank-zeros}
use Rattle.laws.proofs.Split.{free}
use Rattle.laws.proofs.Cases.{by_bool, by-eq, by_le, true-false, and-of, and_l, and_r}
use Rattle.plan.specs.Value.{at, items}
use Rattle.book_view.proofs.Short.{at-past}
use Rattle.ask_sheet.specs.Sheet.{numbers, sooner, soonest, eight}
use Rattle.ask_sheet.proofs.Numbers.{numbers-taken, numbers-passed, soonest-more}
use Rattle.ask_sheet.proofs.Lines.{eight-length, eight-at, sooner-first, sooner-less, sooner-kept}

mem-left : {a : ℕ} (s t : List ℕ) → Memᴰ a s → Memᴰ a (s ++ t)
mem-left [] t m = absurd (Memᴰ.not-nil m)
mem-left (x ∷ s) t m = ⊎_elim (λ e. Memᴰ.head e) (λ r. Memᴰ.tail (mem-left s t r)) (Memᴰ.cases_cons m)

mem-last : {a : ℕ} (s : List ℕ) → Memᴰ a (s ++ (a ∷ []))
mem-last [] = Memᴰ.head refl
mem-last (x ∷ s) = Memᴰ.tail (mem-last s)

-- numbers by one more
step : (n : ℕ) (w : ℕ → Bool) → ((w n ≡ true) × (numbers (suc n) w ≡ numbers n w ++ ((n + 1) ∷ []))) ⊎ ((w n ≡ false) × (numbers (suc n) w ≡ numbers n w))
step n w =
    let e : numbers (n + 1) w ≡ numbers (suc n) w = ap (λ (m : ℕ). numbers m w) (add-one n) in
    by_bool (w n) (λ t. inl (t, sym e ∙ numbers-taken n w t)) (λ t. inr (t, sym e ∙ numbers-passed n w t))

-- who is among them
pub among : (n : ℕ) (w : ℕ → Bool) (k : ℕ) → Memᴰ (k + 1) (numbers n w) → (k < n) × (w k ≡ true)
unfolding numbers
among zero w k m = absurd (Memᴰ.not-nil m)
among (suc n) w k m =
    let up : (k < n) × (w k ≡ true) → (k < suc n) × (w k ≡ true) = λ r. (omega (arith, r.0), r.1) in
    ⊎_elim
    (λ t.
    ⊎_elim (λ r. up (among n w k r))
    (λ r. ⊎_elim (λ e. let z : k ≡ n = omega arith in (omega arith, rw z t.0)) (λ r. absurd (Memᴰ.not-nil r)) (Memᴰ.cases_cons r))
    (Memᴰ.append_cases (numbers n w) (subst (Memᴰ (k + 1)) t.1 m)))
    (λ t. up (among n w k (subst (Memᴰ (k + 1)) t.1 m))) (step n w)

pub listed : (n : ℕ) (w : ℕ → Bool) (k : ℕ) → k < n → w k ≡ true → Memᴰ (k + 1) (numbers n w)
listed zero w k l h = absurd (omega arith)
listed (suc n) w k l h =
    by-eq k n
    (λ e.
    ⊎_elim (λ t. subst (Memᴰ (k + 1)) (sym t.1) (rw e (mem-last {a = n + 1} (numbers n w)))) (λ t. true-false h (rw e t.0)) (step n w))
    (λ ne.
    let r = listed n w k (omega arith) h in
    ⊎_elim (λ t. subst (Memᴰ (k + 1)) (sym t.1) (mem-left (numbers n w) ((n + 1) ∷ []) r)) (λ t. subst (Memᴰ (k + 1)) (sym t.1) r) (step n w))

-- they rise, from 1 to n
low : (n : ℕ) (w : ℕ → Bool) (i : ℕ) → i < length (numbers n w) → at (numbers n w) i ≤ n
unfolding numbers
low zero w i h = absurd (omega arith)
low (suc n) w i h =
    ⊎_elim
    (λ t.
    let l = numbers n w in
    let s : length (numbers (suc n) w) ≡ length l + 1 = ap length t.1 ∙ length-append l ((n + 1) ∷ []) in
    by-eq i (length l)
    (λ e. let v : at (numbers (suc n) w) i ≡ n + 1 = ap (λ (x : List ℕ). at x i) t.1 ∙ rw e (get_or-append_seam l (n + 1) [] 0) in omega arith)
    (λ ne.
    let v : at (numbers (suc n) w) i ≡ at l i = ap (λ (x : List ℕ). at x i) t.1 ∙ get_or-append l ((n + 1) ∷ []) 0 i (omega arith) in
    let r = low n w i (omega arith) in omega arith))
    (λ t.
    let s : length (numbers (suc n) w) ≡ length (numbers n w) = ap length t.1 in
    let v : at (numbers (suc n) w) i ≡ at (numbers n w) i = ap (λ (x : List ℕ). at x i) t.1 in
    let r = low n w i (omega arith) in omega arith)
    (step n w)

pub rise : (n : ℕ) (w : ℕ → Bool) (i j : ℕ) → i < j → j < length (numbers n w) → at (numbers n w) i < at (numbers n w) j
unfolding numbers
rise zero w i j h q = absurd (omega arith)
rise (suc n) w i j h q =
    ⊎_elim
    (λ t.
    let l = numbers n w in
    let s : length (numbers (suc n) w) ≡ length l + 1 = ap length t.1 ∙ length-append l ((n + 1) ∷ []) in
    let a : at (numbers (suc n) w) i ≡ at l i = ap (λ (x : List ℕ). at x i) t.1 ∙ get_or-append l ((n + 1) ∷ []) 0 i (omega arith) in
    by-eq j (length l)
    (λ e.
    let v : at (numbers (suc n) w) j ≡ n + 1 = ap (λ (x : List ℕ). at x j) t.1 ∙ rw e (get_or-append_seam l (n + 1) [] 0) in
    let r = low n w i (omega arith) in omega arith)
    (λ ne.
    let v : at (numbers (suc n) w) j ≡ at l j = ap (λ (x : List ℕ). at x j) t.1 ∙ get_or-append l ((n + 1) ∷ []) 0 j (omega arith) in
    let r = rise n w i j h (omega arith) in omega arith))
    (λ t.
    let s : length (numbers (suc n) w) ≡ length (numbers n w) = ap length t.1 in
    let a : at (numbers (suc n) w) i ≡ at (numbers n w) i = ap (λ (x : List ℕ). at x i) t.1 in
    let v : at (numbers (suc n) w) j ≡ at (numbers n w) j = ap (λ (x : List ℕ). at x j) t.1 in
    let r = rise n w i j h (omega arith) in omega arith)
    (step n w)

-- none is 0, so they are the items of a drive's places where there are at most eight
free-append : (l : List ℕ) (x : ℕ) → free 0 l ≡ true → free 0 (l ++ ((x + 1) ∷ [])) ≡ true
unfolding all_of
free-append [] x h = rw (ne_eqb (x + 1) 0 (omega arith))
free-append (y ∷ l) x h =
    and-of (and_l (not (eqb y 0)) (free 0 l) h) (free-append l x (and_r (not (eqb y 0)) (free 0 l) h))

free-numbers : (n : ℕ) (w : ℕ → Bool) → free 0 (numbers n w) ≡ true
unfolding numbers all_of
free-numbers zero w = refl
free-numbers (suc n) w =
    ⊎_elim (λ t. ap (free 0) t.1 ∙ free-append (numbers n w) n (free-numbers n w)) (λ t. ap (free 0) t.1 ∙ free-numbers n w) (step n w)

eight-short : (l : List ℕ) → length l ≤ 8 → eight l ≡ l ++ replicate (8 - length l) 0
eight-short l h =
    let z = replicate {A = ℕ} (8 - length l) 0 in
    let s : length (l ++ z) ≡ 8 = length-append l z ∙ omega (arith, length-replicate {A = ℕ} (8 - length l) 0) in
    ext_get_or 0 (eight l) (l ++ z) (eight-length l ∙ sym s)
    (λ i q.
    let low : i < 8 = omega (arith, eight-length l) in
    eight-at l i low
    ∙ by_le (length l) i
    (λ le.
    let e : i ≡ length l + (i - length l) = omega arith in
    at-past l i le
    ∙ sym (ap (λ (j : ℕ). get_or (l ++ z) j 0) e ∙ get_or-append-add l z (i - length l) 0 ∙ get_or-replicate (8 - length l) (i - length l) 0 0 (omega arith)))
    (λ lt. sym (get_or-append l z 0 i lt)))

pub items-eight : (n : ℕ) (w : ℕ → Bool) → length (numbers n w) ≤ 8 → items (eight (numbers n w)) ≡ numbers n w
items-eight n w h =
    let l = numbers n w in
    ap items (eight-short l h) ∙ before-blank l (replicate (8 - length l) 0) (free-numbers n w) (blank-zeros (8 - length l))

-- who is soonest of those picked
pub data Soon (n : ℕ) (w : ℕ → Bool) (f : ℕ → ℕ) (s : ℕ) : Type 0 where
  nobody : s ≡ 0 → ((k : ℕ) → k < n → w k ≡ false) → Soon n w f s
  this :
      (k : ℕ) → s ≡ k + 1 → k < n → w k ≡ true
      → ((j : ℕ) → j < n → w j ≡ true → (f k < f j) ⊎ ((f k ≡ f j) × (k ≤ j))) → Soon n w f s

module _ (w : ℕ → Bool) (f : ℕ → ℕ) where
  soon-passed : (n s : ℕ) → w n ≡ false → Soon n w f s → Soon (suc n) w f s
  soon-passed n s h (Soon.nobody z none) = Soon.nobody z (λ k l. by-eq k n (λ e. rw e h) (λ ne. none k (omega arith)))
  soon-passed n s h (Soon.this k e l v top) =
      Soon.this k e (omega arith) v (λ j q u. by-eq j n (λ z. true-false u (rw z h)) (λ ne. top j (omega arith) u))

  soon-taken : (n s : ℕ) → w n ≡ true → Soon n w f s → Soon (suc n) w f (sooner f s (n + 1))
  soon-taken n s h (Soon.nobody z none) =
      rw (← sooner-first f s n z)
      (Soon.this n refl (omega arith) h (λ j q u. by-eq j n (λ e. inr (ap f (sym e), omega arith)) (λ ne. true-false u (none j (omega arith)))))
  soon-taken n s h (Soon.this k e l v top) =
      let back : f (s - 1) ≡ f k = let z : s - 1 ≡ k = omega arith in ap f z in
      by_le (f k) (f n)
      (λ le.
      rw (← sooner-kept f s n (omega arith) (omega arith))
      (Soon.this k e (omega arith) v
      (λ j q u.
      by-eq j n (λ z. by-eq (f k) (f n) (λ same. inr (same ∙ ap f (sym z), omega arith)) (λ other. let g : f j ≡ f n = ap f z in inl (omega arith)))
      (λ ne. top j (omega arith) u))))
      (λ lt.
      rw (← sooner-less f s n (omega arith) (omega arith))
      (Soon.this n refl (omega arith) h
      (λ j q u.
      by-eq j n (λ z. inr (ap f (sym z), omega arith))
      (λ ne. ⊎_elim (λ a. inl (omega arith)) (λ a. let g = a.0 in inl (omega arith)) (top j (omega arith) u)))))

pub soon-is : (n : ℕ) (w : ℕ → Bool) (f : ℕ → ℕ) → Soon n w f (soonest f 0 (numbers n w))
unfolding numbers soonest
soon-is zero w f = Soon.nobody refl (λ k l. absurd (omega arith))
soon-is (suc n) w f =
    ⊎_elim
    (λ t. subst (Soon (suc n) w f) (sym (ap (soonest f 0) t.1 ∙ soonest-more f 0 (n + 1) (numbers n w))) (soon-taken w f n (soonest f 0 (numbers n w)) t.0 (soon-is n w f)))
    (λ t. subst (Soon (suc n) w f) (sym (ap (soonest f 0) t.1)) (soon-passed w f n (soonest f 0 (numbers n w)) t.0 (soon-is n w f)))
    (step n w)
