-- The lines of a text by the tests that lead to their answer.
use Prim.Native.Nat.{ℕ, ◌+◌, ◌≤◌, ◌<◌}
use mathlib.Core.Path.{◌≡◌, refl, sym, ap}
use mathlib.Core.Logic.{◌≢◌}
use mathlib.Core.Bool.{Bool, true, false, cond, ◌&&◌}
use mathlib.Core.List.{List}
use native.Mathlib.Omega.{arith}
use lib.Dec.{ltb, eqb}
use Rattle.std.specs.Prelude.{None, Some}
use lib.ListN.{length}
use borrow.Author.Tests.{le-ltb, lt-ltb, ne_eqb}
use Rattle.laws.proofs.Cases.{by_bool, by-eq}
use Rattle.laws.specs.Split.{index_of, before, skip_on}
use Rattle.text.specs.Line.{LF, has_line, skip, line_at, field}
use Rattle.text.specs.Number.{value_of}
use Rattle.text.proofs.Parts.{found-le}
use Rattle.plan.specs.Answer.{refuse, granted, is_refused}
use Rattle.plan.specs.Value.{zero_plan}
use Rattle.plan.specs.Read.{sizes_ok, edition_of, boards_of, tasks_of, lines_answer, form_answer, lines_of}
use Rattle.plan.specs.declared.Answer.{Answer}
use Rattle.plan.specs.declared.Reading.{Reading}
use Rattle.plan.proofs.TextLines.{sizes-test, number-range}
use Rattle.plan_read.specs.Private.Fields.{sizes_read, FirstRead}
use Rattle.plan_read.specs.Private.Editions.{edition_by, edition_number, is_mended}
use Rattle.plan_read.specs.declared.Sizes.{Sizes}

abbrev pub refused_reading : Answer → Reading
refused_reading answer = record { answer = answer; plan = zero_plan }

sizes-none : (mends : Bool) (line : List ℕ) → None ≡ sizes_read mends line → sizes_ok mends line ≡ false
unfolding sizes_read
sizes-none mends line h =
    by_bool (sizes_ok mends line) (λ e. let q : None ≡ Some _ = rw e at h in cc) (λ e. e)

sizes-some :
    (mends : Bool) (line : List ℕ) {sizes : Sizes} → Some sizes ≡ sizes_read mends line
    → (sizes_ok mends line ≡ true) × (sizes ≡ record { edition = edition_by mends (value_of (field line 1)); boards = value_of (field line 2); tasks = value_of (field line 3) })
unfolding sizes_read
sizes-some mends line h =
    by_bool (sizes_ok mends line)
    (λ e. let q = rw e at h in (e, cc))
    (λ e. let q : Some _ ≡ None = rw e at h in cc)

edition-mended : (mends : Bool) (n : ℕ) → is_mended (edition_by mends n) ≡ mends
edition-mended true n = refl
edition-mended false n = by_bool (eqb n 1) (λ e. rw e) (λ e. rw e)

edition-number : (mends : Bool) (n : ℕ) → cond mends 2 1 ≤ n → n ≤ 2 → edition_number (edition_by mends n) ≡ n
edition-number true n low high = omega arith
edition-number false n low high = by-eq n 1 (λ e. rw e) (λ e. let t : n ≡ 2 = omega arith in rw t)

module _ (mends : Bool) (s : List ℕ) where
  first_line : line_at s 0 ≡ before LF s
  unfolding skip_on
  first_line = refl

  pub reading-refused : {answer : Answer} → form_answer mends s ≡ answer → answer.code ≢ 0 → refused_reading answer ≡ lines_of mends s
  unfolding lines_of
  reading-refused {answer} e n = rw (e, ne_eqb answer.code 0 n)

  is-long : 32768 < length s → form_answer mends s ≡ refuse 1 0 0
  unfolding form_answer
  is-long h = rw (lt-ltb 32768 (length s) h)

  pub reading-long : 32768 < length s → refused_reading (refuse 1 0 0) ≡ lines_of mends s
  reading-long h = reading-refused (is-long h) (omega arith)

  no-first : length s ≤ 32768 → (has_line s && sizes_ok mends (line_at s 0)) ≡ false → form_answer mends s ≡ refuse 2 1 0
  unfolding form_answer
  no-first h e = rw (le-ltb 32768 (length s) h, e)

  module _ (short : length s ≤ 32768) {place : ℕ} (p : place ≡ index_of LF s) where
    pub reading-no-line : place ≡ length s → refused_reading (refuse 2 1 0) ≡ lines_of mends s
    reading-no-line e =
        let none : has_line s ≡ false = le-ltb (index_of LF s) (length s) (omega arith) in
        reading-refused (no-first short (rw none)) (omega arith)

    module _ (there : place ≡ length s → ⊥) where
      has : has_line s ≡ true
      has = lt-ltb (index_of LF s) (length s) (omega (arith, found-le LF s p, there))

      pub reading-no-sizes : None ≡ sizes_read mends (before LF s) → refused_reading (refuse 2 1 0) ≡ lines_of mends s
      reading-no-sizes h =
          let bad : sizes_ok mends (line_at s 0) ≡ false = sizes-none mends (line_at s 0) (rw (← first_line) at h) in
          reading-refused (no-first short (rw (has, bad))) (omega arith)

      pub first_read : {sizes : Sizes} → Some sizes ≡ sizes_read mends (before LF s) → (mends ≡ is_mended sizes.edition) × FirstRead mends s (edition_number sizes.edition) sizes.boards sizes.tasks
      first_read {sizes} h =
          let says = sizes-some mends (line_at s 0) (rw (← first_line) at h) in
          let good : sizes_ok mends (line_at s 0) ≡ true = says.0 in
          let ed : sizes.edition ≡ edition_by mends (edition_of s) = ap (λ (x : Sizes). x.edition) says.1 in
          let b : sizes.boards ≡ boards_of s = ap (λ (x : Sizes). x.boards) says.1 in
          let t : sizes.tasks ≡ tasks_of s = ap (λ (x : Sizes). x.tasks) says.1 in
          let es = number-range (cond mends 2 1) 2 (field (line_at s 0) 1) (sizes-test mends (line_at s 0) good 2 (omega arith)) in
          let bs = number-range 1 8 (field (line_at s 0) 2) (sizes-test mends (line_at s 0) good 3 (omega arith)) in
          let ts = number-range 1 64 (field (line_at s 0) 3) (sizes-test mends (line_at s 0) good 4 (omega arith)) in
          let e : edition_number sizes.edition ≡ edition_of s = rw ed (edition-number mends (edition_of s) es.1 es.2) in (
            rw ed (sym (edition-mended mends (edition_of s))),
            record { has_line = has; sizes = good; edition_is = e; boards_are = b; tasks_are = t; two = omega (arith, es.2); few_boards = omega (arith, bs.2); few_tasks = omega (arith, ts.2); short = short },
          )

  -- and from then on
  pub answer-lines :
      {edition boards tasks : ℕ} → FirstRead mends s edition boards tasks
      → form_answer mends s
      ≡ cond (is_refused (lines_answer mends s)) (lines_answer mends s)
      (cond (ltb 0 (length (skip (tasks_of s + 1) s))) (refuse 5 (tasks_of s + 2) 0) granted)
  unfolding form_answer
  answer-lines first = rw (le-ltb 32768 (length s) first.short, first.has_line, first.sizes)
