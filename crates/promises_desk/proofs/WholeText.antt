-- Texts of whole lines: one after the other, and a line more.
use Prim.Native.Nat.{ℕ, zero, suc, ◌+◌, ◌-◌, ◌≤◌, ◌<◌}
use mathlib.Core.Path.{◌≡◌, refl, sym, ap, subst, ◌∙◌}
use mathlib.Core.Bool.{true, not}
use mathlib.Core.List.{List, [], ◌∷◌, ◌++◌}
use native.Mathlib.Omega.{arith}
use lib.Dec.{eqb}
use lib.ListN.{length, take, drop, length-append, length-take, length-drop}
use lib.Seq.{take-append-le, drop-append-le, take-length, get_or-drop, get_or-take}
use borrow.Author.Tests.{eq-eqb, ne_eqb, ltb-true, lt-ltb, le-ltb}
use Rattle.laws.proofs.Cases.{by_bool, by-eq, by_le, and-of}
use Rattle.laws.specs.Lists.{all_of}
use Rattle.laws.specs.Split.{index_of, before, after}
use Rattle.laws.proofs.Split.{free, index-found, index-first, index-seam, before-seam, after-seam}
use Rattle.text.specs.Line.{LF, has_line}
use Rattle.plan.specs.Value.{at}
use Rattle.desk_start.specs.Start.{line_end, whole_lines, text_in}
use Rattle.desk_start.proofs.StartLaws.{end-here, end-le}
use Rattle.promises_desk.proofs.ReadLines.{empty-is, line-length}

pub data Whole : List ℕ → Type 0 where
  none : {text : List ℕ} → length text ≡ 0 → Whole text
  line : {text : List ℕ} → has_line text ≡ true → Whole (after LF text) → Whole text

-- ---- a text with more behind it

index-append : (c : ℕ) (w x : List ℕ) → index_of c w < length w → index_of c (w ++ x) ≡ index_of c w
unfolding index_of
index-append c [] x h = absurd (omega arith)
index-append c (b ∷ w) x h =
    by_bool (eqb b c)
    (λ e. rw e)
    (λ e. let h' : suc (index_of c w) < suc (length w) = rw e at h in rw e (ap suc (index-append c w x (omega arith))))

module _ (w x : List ℕ) (h : has_line w ≡ true) where
  less : index_of LF w < length w
  less = ltb-true (index_of LF w) (length w) h

  same_index : index_of LF (w ++ x) ≡ index_of LF w
  same_index = index-append LF w x less

  pub more-line : has_line (w ++ x) ≡ true
  more-line = let e = same_index in lt-ltb (index_of LF (w ++ x)) (length (w ++ x)) (omega (arith, e, less, length-append w x))

  pub more-before : before LF (w ++ x) ≡ before LF w
  more-before = ap (λ (i : ℕ). take i (w ++ x)) same_index ∙ take-append-le (index_of LF w) w x (omega (arith, less))

  pub more-after : after LF (w ++ x) ≡ after LF w ++ x
  more-after = ap (λ (i : ℕ). drop (suc i) (w ++ x)) same_index ∙ drop-append-le (suc (index_of LF w)) w x (omega (arith, less))

-- ---- a line and its LF

before-free : (c : ℕ) (s : List ℕ) → free c (before c s) ≡ true
unfolding index_of all_of
before-free c [] = refl
before-free c (b ∷ s) = by_bool (eqb b c) (λ e. rw e) (λ e. rw e (and-of (ap not e) (before-free c s)))

module _ (text : List ℕ) where
  abbrev pub kept : List ℕ
  kept = before LF text ++ (LF ∷ [])

  pub kept-before : before LF kept ≡ before LF text
  kept-before = before-seam LF (before LF text) [] (before-free LF text)

  pub kept-after : after LF kept ≡ []
  kept-after = after-seam LF (before LF text) [] (before-free LF text)

  pub kept_line : has_line kept ≡ true
  kept_line =
      let i = index-seam LF (before LF text) [] (before-free LF text) in
      lt-ltb (index_of LF kept) (length kept) (omega (arith, i, length-append (before LF text) (LF ∷ [])))

  pub kept-length : length kept ≡ length (before LF text) + 1
  kept-length = length-append (before LF text) (LF ∷ [])

  kept_whole : Whole kept
  kept_whole = Whole.line kept_line (Whole.none (ap length kept-after))

pub whole-more : (text w : List ℕ) → Whole w → Whole (w ++ kept text)
whole-more text w (Whole.none h) = rw (empty-is w h) (kept_whole text)
whole-more text w (Whole.line h r) =
    Whole.line (more-line w (kept text) h) (subst Whole (sym (more-after w (kept text) h)) (whole-more text (after LF w) r))

-- ---- the last byte of whole lines is an LF

last-in : (w : List ℕ) → has_line w ≡ true → (n : ℕ) → length (after LF w) ≡ suc n → at (after LF w) n ≡ at w (length w - 1)
last-in w h n e =
    let l = line-length w h in
    let g = get_or-drop (suc (index_of LF w)) w n 0 in
    let i = ltb-true (index_of LF w) (length w) h in
    let k : suc (index_of LF w) + n ≡ length w - 1 = omega (arith, length-drop (suc (index_of LF w)) w, e, i) in
    g ∙ ap (at w) k

last-lf : (w : List ℕ) → Whole w → 0 < length w → at w (length w - 1) ≡ LF
last-lf w (Whole.none z) h = absurd (omega (arith, z, h))
last-lf w (Whole.line l r) h =
    let i = ltb-true (index_of LF w) (length w) l in
    by_le (length (after LF w)) 0
    (λ z.
    let k : index_of LF w ≡ length w - 1 = omega (arith, length-drop (suc (index_of LF w)) w, z, i) in
    ap (at w) (sym k) ∙ index-found LF w 0 i)
    (λ s.
    let q : length (after LF w) ≡ suc (length (after LF w) - 1) = omega (arith, s) in
    sym (last-in w l (length (after LF w) - 1) q) ∙ last-lf (after LF w) r s)

pub whole-text : (w : List ℕ) → Whole w → length w ≤ 32768 → text_in w ≡ w
unfolding text_in line_end
whole-text w r h =
    rw (le-ltb 32768 (length w) h)
    (by_le (length w) 0
    (λ z. ap (λ (s : List ℕ). take (line_end s (length s)) s) (empty-is w (omega (arith, z))) ∙ sym (empty-is w (omega (arith, z))))
    (λ s. ap (λ (n : ℕ). take n w) (sym (end-here w (length w) s (last-lf w r s))) ∙ take-length w))

-- ---- and a text that ends with an LF is whole lines

whole_by : (f : ℕ) (w : List ℕ) → length w ≤ f → (0 < length w → at w (length w - 1) ≡ LF) → Whole w
whole_by zero w h e = Whole.none {text = w} (omega (arith, h))
whole_by (suc f) w h e =
    by_le (length w) 0
    (λ z. Whole.none {text = w} (omega (arith, z)))
    (λ s.
    by_le (length w) (index_of LF w)
    (λ l. absurd (index-first LF w 0 (length w - 1) (omega (arith, s, l)) (e s)))
    (λ l.
    let t = lt-ltb (index_of LF w) (length w) l in
    let d = length-drop (suc (index_of LF w)) w in
    Whole.line t
    (whole_by f (after LF w) (omega (arith, d, l, h))
    (λ some.
    let q : length (after LF w) ≡ suc (length (after LF w) - 1) = omega (arith, some) in
    last-in w t (length (after LF w) - 1) q ∙ e s))))

end-last : (w : List ℕ) (n : ℕ) → 0 < line_end w n → at w (line_end w n - 1) ≡ LF
unfolding line_end
end-last w zero h = absurd (omega arith)
end-last w (suc n) h =
    by-eq (at w n) LF
    (λ e. rw (eq-eqb (at w n) LF e) (subst (λ (k : ℕ). at w k ≡ LF) (pred n) e))
    (λ e. let f = ne_eqb (at w n) LF e in rw f (end-last w n (rw f at h)))
  where
    pred : (n : ℕ) → n ≡ suc n - 1
    pred n = omega arith

pub whole-cut : (ends : List ℕ) → Whole (whole_lines ends)
whole-cut ends =
    let n = line_end ends (length ends) in
    let l : length (take n ends) ≡ n = let t = length-take n ends in omega (arith, t, end-le ends (length ends)) in
    whole_by (length (take n ends)) (take n ends) (omega arith)
    (λ some.
    let k : length (take n ends) - 1 < n = omega (arith, l, some) in
    get_or-take n ends (length (take n ends) - 1) 0 k
    ∙ ap (λ (j : ℕ). at ends (j - 1)) l
    ∙ end-last ends (length ends) (omega (arith, l, some)))
