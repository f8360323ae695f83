-- A text whose first line does not say edition 2 reads, and is refused, as the reader of seven fields has it.
use Prim.Native.Nat.{ℕ, ◌+◌, ◌<◌}
use native.Mathlib.Omega.{arith}
use mathlib.Core.Bool.{Bool, true, false, not, cond, ◌&&◌}
use mathlib.Core.List.{List}
use mathlib.Core.Path.{◌≡◌, refl, sym, ap, fun_ext, ◌∙◌}
use lib.Dec.{eqb, ltb}
use lib.ListN.{length}
use borrow.Author.Tests.{le-ltb}
use Rattle.laws.proofs.Cases.{by_bool, by-eq, by_le, and_no, same_test, true-false}
use Rattle.laws.specs.Digits.{value_after, digits_of}
use Rattle.laws.specs.Lists.{any_of, same}
use Rattle.laws.proofs.Lists.{same-eq, same_refl}
use Rattle.laws.specs.Scan.{scan_to}
use Rattle.laws.specs.Split.{index_of}
use Rattle.laws.proofs.Split.{index-found}
use Rattle.text.specs.Bytes.{bytes}
use Rattle.text.specs.Number.{is_number, value_of}
use Rattle.text.specs.Line.{has_line, skip, line_at, field}
use Rattle.text_fields.specs.Faults.{Fault, worst, fault_of}
use Rattle.text_fields.proofs.FaultLaws.{any_found}
use Rattle.plan.specs.Answer.{refuse, granted, is_granted, is_refused}
use Rattle.plan.specs.Judged.{tasks_answer}
use Rattle.plan.specs.Value.{at, plan_of}
use Rattle.plan.specs.Read.{ranged, sizes_ok, edition_of, boards_of, tasks_of, codes_from, task_codes, task_from, line_task}
use Rattle.plan.specs.Read.{line_answer, lines_answer, text_task, form_answer, text_answer, text_plan, read_as, read_in, reading_of}
use Rattle.plan.specs.declared.Answer.{Answer}
use Rattle.plan.specs.declared.Plan.{Plan}
use Rattle.plan.proofs.TextLines.{number-range, sizes-test}
use Rattle.promises.specs.Edition1.{seven_sizes, seven_codes, seven_task, seven_worst, seven_fault, seven_line, seven_lines, seven_form, seven_answer, seven_reading}
use Rattle.text_fields.proofs.Alike.{Plain}
use Rattle.promises.proofs.Codes.Columns.{plain-not}
use Rattle.promises.proofs.Codes.TaskLine.{holds-first, first_plain}

-- ---- a line's fault by where 3 and 4 stand

-- nothing is 18 or 20
none_over : (codes : List ℕ) → ((n : ℕ) → Plain (at codes n)) → (other : ℕ) → 4 < other → any_of (eqb other) codes ≡ false
none_over codes plain other high =
    any_found other codes
    ∙ le-ltb (index_of other codes) (length codes)
    (by_le (length codes) (index_of other codes) (λ l. l) (λ l. absurd (plain-not (plain (index_of other codes)) other high (index-found other codes 0 l))))

fault-seven : (line codes : List ℕ) → ((n : ℕ) → Plain (at codes n)) → fault_of line codes ≡ seven_fault line codes
unfolding fault_of worst seven_worst
fault-seven line codes plain = rw (none_over codes plain 18 (omega arith), none_over codes plain 20 (omega arith))

line-fault :
    (ended : Bool) (boards tasks : ℕ) (line : List ℕ) (k : ℕ)
    → fault_of line (task_codes false ended 1 boards tasks line k) ≡ seven_fault line (seven_codes ended boards tasks line k)
unfolding task_codes codes_from seven_codes
line-fault ended boards tasks line k =
    fault-seven line (task_codes false ended 1 boards tasks line k) (first_plain line false ended 1 boards tasks k (λ z. omega arith))
    ∙ rw (holds-first (field line 5))

-- ---- the first line

one-is : (f : List ℕ) → same f (bytes "1") ≡ true → (ranged 1 2 f ≡ true) × (value_of f ≡ 1)
unfolding is_number value_after
one-is f h = let e = same-eq f (bytes "1") h in (rw e, rw e)

-- a number has one spelling
spelt : (f g : List ℕ) → ranged 1 2 f ≡ true → ranged 1 2 g ≡ true → value_of f ≡ value_of g → f ≡ g
spelt f g h l e = sym (number-range 1 2 f h).0 ∙ ap digits_of e ∙ (number-range 1 2 g l).0

edition-one : (f : List ℕ) → same f (bytes "2") ≡ false → ranged 1 2 f ≡ same f (bytes "1")
unfolding is_number value_after
edition-one f other =
    same_test (ranged 1 2 f) (same f (bytes "1"))
    (λ h.
    let r = number-range 1 2 f h in
    by-eq (value_of f) 1
    (λ e. let q = spelt f (bytes "1") h refl e in rw q (same_refl (bytes "1")))
    (λ n.
    let e : value_of f ≡ 2 = omega (arith, r.1, r.2) in
    let q = spelt f (bytes "2") h refl e in
    true-false (rw q (same_refl (bytes "2"))) other))
    (λ h. (one-is f h).0)

-- ---- the whole text

-- what is said of a refused text does not look at its lines
read-refused : (x : Answer) (p q : Plan) → is_granted x ≡ false → read_as x p ≡ read_as x q
read-refused x p q h = rw h

module _ (s : List ℕ) (other : same (field (line_at s 0) 1) (bytes "2") ≡ false) where
  sizes-seven : sizes_ok false (line_at s 0) ≡ seven_sizes (line_at s 0)
  unfolding sizes_ok seven_sizes
  sizes-seven = rw (edition-one (field (line_at s 0) 1) other)

  -- the checks of 1, 2, the lines' and 5
  abbrev form_with : Bool → Answer → Answer
  form_with first lines =
      cond (ltb 32768 (length s)) (refuse 1 0 0)
      (cond (not first) (refuse 2 1 0)
      (cond (is_refused lines) lines (cond (ltb 0 (length (skip (tasks_of s + 1) s))) (refuse 5 (tasks_of s + 2) 0) granted)))

  form-is : form_answer false s ≡ form_with (has_line s && sizes_ok false (line_at s 0)) (lines_answer false s)
  unfolding form_answer
  form-is = refl

  seven_is : seven_form s ≡ form_with (has_line s && seven_sizes (line_at s 0)) (seven_lines s)
  unfolding seven_form
  seven_is = refl

  -- the first line is as stated
  module _ (h : sizes_ok false (line_at s 0) ≡ true) where
    pub one : edition_of s ≡ 1
    one = (one-is (field (line_at s 0) 1) (sym (edition-one (field (line_at s 0) 1) other) ∙ sizes-test false (line_at s 0) h 2 (omega arith))).1

    line-seven : (k : ℕ) → line_answer false s k ≡ seven_line s k
    unfolding line_answer
    line-seven k =
        ap (λ (f : Fault). refuse f.code (k + 1) f.column)
        (ap (λ (e : ℕ). fault_of (line_at s k) (task_codes false (has_line (skip k s)) e (boards_of s) (tasks_of s) (line_at s k) k)) one
        ∙ line-fault (has_line (skip k s)) (boards_of s) (tasks_of s) (line_at s k) k)

    lines-seven : lines_answer false s ≡ seven_lines s
    unfolding lines_answer
    lines-seven = ap (λ (f : ℕ → Answer). scan_to is_refused granted f 1 (tasks_of s + 1)) (fun_ext line-seven)

    tasks-seven : text_task false s ≡ seven_task s
    unfolding line_task task_from
    tasks-seven = fun_ext (λ k. rw one)

    form-seven : form_answer false s ≡ seven_form s
    form-seven = form-is ∙ (λ i. form_with (has_line s && sizes-seven i) (lines-seven i)) ∙ sym seven_is

    stated : reading_of s ≡ seven_reading s
    unfolding read_in text_answer
    stated =
        λ i.
        read_as (cond (is_refused (form-seven i)) (form-seven i) (tasks_answer (tasks_of s) (tasks-seven i)))
        (plan_of (one i) (boards_of s) (tasks_of s) (tasks-seven i))

  -- or not: 1 or 2
  module _ (h : sizes_ok false (line_at s 0) ≡ false) where
    abbrev short : Answer
    short = cond (ltb 32768 (length s)) (refuse 1 0 0) (refuse 2 1 0)

    short-form : form_answer false s ≡ short
    short-form = form-is ∙ rw (h, and_no (has_line s))

    short-seven : seven_form s ≡ short
    short-seven = seven_is ∙ rw (sym sizes-seven ∙ h, and_no (has_line s))

    short-refused : (is_granted short ≡ false) × (is_refused short ≡ true)
    short-refused = by_bool (ltb 32768 (length s)) (λ e. rw e (refl, refl)) (λ e. rw e (refl, refl))

    short-answer : (x : Answer) → cond (is_refused short) short x ≡ short
    short-answer x = rw short-refused.1

    unstated : reading_of s ≡ seven_reading s
    unfolding read_in text_answer
    unstated =
        let new : text_answer false s ≡ short = rw short-form (short-answer _) in
        let old : seven_answer s ≡ short = rw short-seven (short-answer _) in
        ap (λ (x : Answer). read_as x (text_plan false s)) new
        ∙ read-refused short (text_plan false s) _ short-refused.0
        ∙ ap (λ (x : Answer). read_as x (plan_of 1 (boards_of s) (tasks_of s) (seven_task s))) (sym old)

  pub reading-seven : reading_of s ≡ seven_reading s
  reading-seven = by_bool (sizes_ok false (line_at s 0)) stated unstated
