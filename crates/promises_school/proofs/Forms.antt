-- The tests of a line's form are the forms in words.
use Prim.Native.Nat.{ℕ, zero, suc, ◌≤◌}
use native.Mathlib.Omega.{arith}
use mathlib.Core.Path.{◌≡◌, refl, sym, ap, ◌∙◌}
use mathlib.Core.Logic.{inl, inr, ⊎_elim}
use mathlib.Core.Bool.{Bool, true, ◌&&◌, ◌||◌}
use mathlib.Core.List.{List, [], ◌∷◌}
use lib.Dec.{eqb, leb}
use lib.ListN.{length}
use borrow.Author.Tests.{eq-eqb, ne_eqb, eqb-true, leb-true, le-leb}
use Rattle.laws.proofs.Cases.{by_bool, by-eq, and_l, and_r, and-of, or_at, or_l, or_r, true-false}
use Rattle.laws.proofs.Lists.{same-eq, same_refl}
use Rattle.laws.proofs.Seams.{places-own}
use Rattle.laws.proofs.Split.{free}
use Rattle.laws.proofs.Digits.{value-digits}
use Rattle.laws.specs.Digits.{digits_of}
use Rattle.laws.specs.Lists.{same, all_of}
use Rattle.text.specs.Bytes.{bytes}
use Rattle.text.specs.Number.{is_number, value_of, most}
use Rattle.text.specs.Line.{fields, field}
use Rattle.text.proofs.Numerals.{number-spelt, digits_number, digits-free}
use Rattle.plan.specs.Read.{ranged}
use Rattle.school.specs.Lines.{MINUS, is_tick, is_earliness, is_record, is_run, is_moment, is_remark}
use Rattle.promises_school.specs.Lines.{Number, TicksEarly, RunLine, MomentLine, LaterLine}

-- ---- numbers

module _ (low high : ℕ) (s : List ℕ) where
  abbrev within : Bool
  within = leb low (value_of s) && leb (value_of s) high

  pub ranged-is : ranged low high s ≡ true → Number low high s
  ranged-is h =
      let w = and_r (is_number s) within h in
      record {
        value = value_of s;
        from = leb-true low (value_of s) (and_l (leb low (value_of s)) _ w);
        to = leb-true (value_of s) high (and_r (leb low (value_of s)) _ w);
        spelt = sym (number-spelt s (and_l (is_number s) within h));
      }

  pub number-value : (n : Number low high s) → value_of s ≡ n.value
  number-value n = ap value_of n.spelt ∙ value-digits n.value

  pub ranged-of : Number low high s → ranged low high s ≡ true
  ranged-of n =
      let v = number-value n in
      and-of (ap is_number n.spelt ∙ digits_number n.value)
      (and-of (le-leb low (value_of s) (omega (arith, v))) (le-leb (value_of s) high (omega (arith, v))))

-- two numbers with the same digits
pub digits-one : (m n : ℕ) → digits_of m ≡ digits_of n → m ≡ n
digits-one m n e = sym (value-digits m) ∙ ap value_of e ∙ value-digits n

-- no number has a `-`
minus-no : (n : ℕ) (s : List ℕ) → MINUS ∷ s ≡ digits_of n → ⊥
unfolding all_of
minus-no n s e =
    let f : free MINUS (MINUS ∷ s) ≡ true = ap (free MINUS) e ∙ digits-free MINUS n (omega arith) in
    true-false f refl

pub early_is : (s : List ℕ) → is_earliness s ≡ true → TicksEarly s
unfolding is_earliness
early_is [] h = true-false h refl
early_is (b ∷ s) h =
    by_bool (eqb b MINUS)
    (λ e.
    let h' : ranged 1 most s ≡ true = rw e at h in
    TicksEarly.late s (ap (λ (c : ℕ). c ∷ s) (eqb-true b MINUS e)) (ranged-is 1 most s h'))
    (λ e. let h' : ranged 0 most (b ∷ s) ≡ true = rw e at h in TicksEarly.early (ranged-is 0 most (b ∷ s) h'))

pub early-of : (s : List ℕ) → TicksEarly s → is_earliness s ≡ true
unfolding is_earliness is_number
early-of [] (TicksEarly.early n) = true-false (ranged-of 0 most [] n) refl
early-of (b ∷ s) (TicksEarly.early n) =
    by-eq b MINUS
    (λ e. absurd (minus-no n.value s (ap (λ (c : ℕ). c ∷ s) (sym e) ∙ n.spelt)))
    (λ d. rw (ne_eqb b MINUS d) (ranged-of 0 most (b ∷ s) n))
early-of s (TicksEarly.late t e n) = rw (e, ranged-of 1 most t n)

-- ---- lines

same_of : {s t : List ℕ} → s ≡ t → same s t ≡ true
same_of {s} {t} e = rw e (same_refl t)

module _ (word : List ℕ) (count : ℕ) (line : List ℕ) where
  pub record_is : is_record word count line ≡ true → (length (fields line) ≡ count) × (field line 0 ≡ word)
  record_is h = (
    eqb-true (length (fields line)) count (and_l (eqb (length (fields line)) count) _ h),
    same-eq (field line 0) word (and_r (eqb (length (fields line)) count) (same (field line 0) word) h),
  )

  pub record_of : length (fields line) ≡ count → field line 0 ≡ word → is_record word count line ≡ true
  record_of l e = and-of (eq-eqb (length (fields line)) count l) (same_of e)

-- a number of one value
one_value : (n : ℕ) (s : List ℕ) → ranged n n s ≡ true → s ≡ digits_of n
one_value n s h = let r = ranged-is n n s h in let e : r.value ≡ n = omega arith in r.spelt ∙ ap digits_of e

value-one : (n : ℕ) → ranged n n (digits_of n) ≡ true
value-one n = ranged-of n n (digits_of n) (record { value = n; from = omega arith; to = omega arith; spelt = refl })

module _ (boards tasks : ℕ) (line : List ℕ) where
  abbrev first-edition : Bool
  first-edition = is_record (bytes "run") 4 line && same (field line 1) (bytes "1")

  abbrev second-edition : Bool
  second-edition = is_record (bytes "run") 5 line && (same (field line 1) (bytes "2") && same (field line 4) (bytes "clash"))

  abbrev sizes : Bool
  sizes = ranged boards boards (field line 2) && ranged tasks tasks (field line 3)

  pub run_is : is_run boards tasks line ≡ true → RunLine boards tasks line
  unfolding is_run
  run_is h =
      let s = and_r (first-edition || second-edition) sizes h in
      let b = one_value boards (field line 2) (and_l (ranged boards boards (field line 2)) _ s) in
      let t = one_value tasks (field line 3) (and_r (ranged boards boards (field line 2)) (ranged tasks tasks (field line 3)) s) in
      ⊎_elim
      (λ one.
      let r = record_is (bytes "run") 4 line (and_l (is_record (bytes "run") 4 line) _ one) in
      let e = same-eq (field line 1) (bytes "1") (and_r (is_record (bytes "run") 4 line) (same (field line 1) (bytes "1")) one) in
      inl (sym (places-own (fields line) [] 4 r.0) ∙ (λ i. r.1 i ∷ e i ∷ b i ∷ t i ∷ [])))
      (λ two.
      let r = record_is (bytes "run") 5 line (and_l (is_record (bytes "run") 5 line) _ two) in
      let m = and_r (is_record (bytes "run") 5 line) (same (field line 1) (bytes "2") && same (field line 4) (bytes "clash")) two in
      let e = same-eq (field line 1) (bytes "2") (and_l (same (field line 1) (bytes "2")) _ m) in
      let c = same-eq (field line 4) (bytes "clash") (and_r (same (field line 1) (bytes "2")) (same (field line 4) (bytes "clash")) m) in
      inr (sym (places-own (fields line) [] 5 r.0) ∙ (λ i. r.1 i ∷ e i ∷ b i ∷ t i ∷ c i ∷ [])))
      (or_at first-edition second-edition (and_l (first-edition || second-edition) sizes h))

  pub run_of : RunLine boards tasks line → is_run boards tasks line ≡ true
  unfolding is_run same
  run_of = ⊎_elim (λ e. rw (e, value-one boards, value-one tasks)) (λ e. rw (e, value-one boards, value-one tasks))

module _ (word : List ℕ) (boards tasks : ℕ) (line : List ℕ) where
  pub moment-is : is_moment word boards tasks line ≡ true → MomentLine word boards tasks line
  unfolding is_moment
  moment-is h =
      let r = record_is word 5 line (and_l (is_record word 5 line) _ h) in
      let h1 = and_r (is_record word 5 line) (ranged 1 tasks (field line 1) && (ranged 1 boards (field line 2) && (is_tick (field line 3) && is_earliness (field line 4)))) h in
      let h2 = and_r (ranged 1 tasks (field line 1)) (ranged 1 boards (field line 2) && (is_tick (field line 3) && is_earliness (field line 4))) h1 in
      let h3 = and_r (ranged 1 boards (field line 2)) (is_tick (field line 3) && is_earliness (field line 4)) h2 in
      record {
        count = r.0;
        is = r.1;
        task = ranged-is 1 tasks (field line 1) (and_l (ranged 1 tasks (field line 1)) _ h1);
        board = ranged-is 1 boards (field line 2) (and_l (ranged 1 boards (field line 2)) _ h2);
        tick = ranged-is 0 most (field line 3) (and_l (is_tick (field line 3)) _ h3);
        early = early_is (field line 4) (and_r (is_tick (field line 3)) (is_earliness (field line 4)) h3);
      }

  pub moment-of : MomentLine word boards tasks line → is_moment word boards tasks line ≡ true
  unfolding is_moment
  moment-of m =
      and-of (record_of word 5 line m.count m.is)
      (and-of (ranged-of 1 tasks (field line 1) m.task)
      (and-of (ranged-of 1 boards (field line 2) m.board)
      (and-of (ranged-of 0 most (field line 3) m.tick) (early-of (field line 4) m.early))))

module _ (boards tasks : ℕ) (line : List ℕ) where
  abbrev is-early : Bool
  is-early = is_record (bytes "early") 3 line && (is_tick (field line 1) && is_tick (field line 2))

  abbrev three : Bool
  three = is_tick (field line 1) && (is_tick (field line 2) && is_tick (field line 3))

  numbers-two : (is_tick (field line 1) && is_tick (field line 2)) ≡ true → (n : ℕ) → 1 ≤ n → n ≤ 2 → Number 0 most (field line n)
  numbers-two h zero l m = absurd (omega arith)
  numbers-two h (suc zero) l m = ranged-is 0 most (field line 1) (and_l (is_tick (field line 1)) _ h)
  numbers-two h (suc (suc zero)) l m = ranged-is 0 most (field line 2) (and_r (is_tick (field line 1)) (is_tick (field line 2)) h)
  numbers-two h (suc (suc (suc n))) l m = absurd (omega arith)

  numbers-three : three ≡ true → (n : ℕ) → 1 ≤ n → n ≤ 3 → Number 0 most (field line n)
  numbers-three h zero l m = absurd (omega arith)
  numbers-three h (suc zero) l m = ranged-is 0 most (field line 1) (and_l (is_tick (field line 1)) _ h)
  numbers-three h (suc (suc zero)) l m =
      ranged-is 0 most (field line 2)
      (and_l (is_tick (field line 2)) _ (and_r (is_tick (field line 1)) (is_tick (field line 2) && is_tick (field line 3)) h))
  numbers-three h (suc (suc (suc zero))) l m =
      ranged-is 0 most (field line 3)
      (and_r (is_tick (field line 2)) (is_tick (field line 3)) (and_r (is_tick (field line 1)) (is_tick (field line 2) && is_tick (field line 3)) h))
  numbers-three h (suc (suc (suc (suc n)))) l m = absurd (omega arith)

  pub remark-is : is_remark line ≡ true → LaterLine boards tasks line
  unfolding is_remark
  remark-is h =
      ⊎_elim
      (λ a.
      let r = record_is (bytes "early") 3 line (and_l (is_record (bytes "early") 3 line) _ a) in
      LaterLine.early r.0 r.1 (numbers-two (and_r (is_record (bytes "early") 3 line) (is_tick (field line 1) && is_tick (field line 2)) a)))
      (λ a.
      let r = record_is (bytes "refused") 4 line (and_l (is_record (bytes "refused") 4 line) _ a) in
      LaterLine.refused r.0 r.1 (numbers-three (and_r (is_record (bytes "refused") 4 line) three a)))
      (or_at is-early _ h)

  pub remark-early :
      length (fields line) ≡ 3 → field line 0 ≡ bytes "early" → ((n : ℕ) → 1 ≤ n → n ≤ 2 → Number 0 most (field line n))
      → is_remark line ≡ true
  unfolding is_remark
  remark-early c e n =
      or_l _ (and-of (record_of (bytes "early") 3 line c e)
      (and-of (ranged-of 0 most (field line 1) (n 1 (omega arith) (omega arith))) (ranged-of 0 most (field line 2) (n 2 (omega arith) (omega arith)))))

  pub remark-refused :
      length (fields line) ≡ 4 → field line 0 ≡ bytes "refused" → ((n : ℕ) → 1 ≤ n → n ≤ 3 → Number 0 most (field line n))
      → is_remark line ≡ true
  unfolding is_remark
  remark-refused c e n =
      or_r is-early (and-of (record_of (bytes "refused") 4 line c e)
      (and-of (ranged-of 0 most (field line 1) (n 1 (omega arith) (omega arith)))
      (and-of (ranged-of 0 most (field line 2) (n 2 (omega arith) (omega arith))) (ranged-of 0 most (field line 3) (n 3 (omega arith) (omega arith))))))
