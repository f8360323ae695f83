-- A task line whose codes are all 0, and what it then says.
use Prim.Native.Nat.{ℕ, ◌+◌, ◌≤◌, ◌<◌}
use mathlib.Core.Path.{◌≡◌, refl, ap}
use mathlib.Core.Bool.{Bool, true, false, not, cond, ◌&&◌}
use mathlib.Core.List.{List, [], ◌∷◌}
use native.Mathlib.Omega.{arith}
use lib.Dec.{ltb, eqb}
use lib.ListN.{length, get_or-eq_default}
use borrow.Author.Tests.{le-leb, lt-ltb, le-ltb, ltb-false, eq-eqb, ne_eqb}
use Rattle.laws.proofs.Cases.{by_bool, by_le, by-eq, and_r, and-of, true-false}
use Rattle.laws.specs.Lists.{all_of, same}
use Rattle.laws.specs.Split.{split_on}
use Rattle.text.specs.Bytes.{bytes}
use Rattle.text.specs.Number.{is_number, value_of, most}
use Rattle.text.specs.Line.{fields, field}
use Rattle.text_fields.specs.Items.{is_list, has_shared, holds_ok, after_ok}
use Rattle.text_fields.proofs.Shared.{none-shared}
use Rattle.text_fields.proofs.ListFields.{is_holds, holds_of, is_after, after_of}
use Rattle.text_fields.specs.Faults.{code_for, field_code, word_code}
use Rattle.text_fields.proofs.RangedLaws.{InRange, field-zero, zero_field}
use Rattle.text_fields.proofs.FaultLaws.{is_code, for-code, field-is-code, word-is-code, end-is-code, eighteen-is-code, twenty-is-code, for-zero, word-zero, zero_word, end-zero, zero-end, zero-at, no-codes, zeros}
use Rattle.plan.specs.Task.{task_ok, edition_ok}
use Rattle.plan.specs.Read.{holds_code, codes_from, ready_code, task_codes, task_from, line_task}
use Rattle.plan.proofs.PlanTasks.{between-of, exclusive-ok}

-- ---- from the planned start on, which is field n

pub record TimesOk (retired : Bool) (tasks : ℕ) (line : List ℕ) (n : ℕ) : Type 0 where
  pub begin : is_number (field line n) ≡ true
  pub finish : is_number (field line (n + 1)) ≡ true
  pub lasts : value_of (field line n) < value_of (field line (n + 1))
  pub to : value_of (field line (n + 1)) ≤ most
  pub holds : is_holds (field line (n + 2)) ≡ true
  pub drives : holds_ok (holds_of (field line (n + 2))) ≡ true
  pub exclusive : retired ≡ true → has_shared (holds_of (field line (n + 2))) ≡ false
  pub after : is_after (field line (n + 3)) ≡ true
  pub order : after_ok tasks (after_of (field line (n + 3))) ≡ true
  pub count : length (fields line) ≡ n + 4

-- a missing field is no list
listed : (line : List ℕ) (m : ℕ) → is_after (field line m) ≡ true → m < length (fields line)
unfolding is_list all_of split_on is_number same
listed line m h =
    by_le (length (fields line)) m
    (λ few. let none : field line m ≡ [] = get_or-eq_default (fields line) [] few in true-false (rw none at h) refl)
    (λ some. some)

-- a holds field of code 0
module _ (retired : Bool) (s : List ℕ) where
  abbrev spelling : ℕ
  spelling = code_for (is_holds s) (holds_ok (holds_of s))

  pub record HoldsFine : Type 0 where
    pub spelt : is_holds s ≡ true
    pub fine : holds_ok (holds_of s) ≡ true
    pub exclusive : retired ≡ true → has_shared (holds_of s) ≡ false

  pub holds-zero : holds_code retired s ≡ 0 → HoldsFine
  unfolding holds_code
  holds-zero z =
      by-eq spelling 0
      (λ e.
      let f = for-zero (is_holds s) (holds_ok (holds_of s)) e in
      record {
        spelt = f.0;
        fine = f.1;
        exclusive =
            λ r.
            by_bool (has_shared (holds_of s))
            (λ h. let q : ◌≡◌ {A = ℕ} 20 0 = rw (eq-eqb spelling 0 e, r, h) at z in absurd (omega arith))
            (λ h. h);
      })
      (λ n. absurd (n (rw (ne_eqb spelling 0 n) at z)))

  pub zero-holds : HoldsFine → holds_code retired s ≡ 0
  unfolding holds_code
  zero-holds f =
      by_bool retired
      (λ r. rw (f.spelt, f.fine, r, f.exclusive r))
      (λ r. rw (f.spelt, f.fine, r))

  pub holds-is-code : is_code (holds_code retired s) ≡ true
  unfolding holds_code
  holds-is-code =
      by_bool (eqb spelling 0 && (retired && has_shared (holds_of s)))
      (λ e. rw e twenty-is-code)
      (λ e. rw e (for-code (is_holds s) (holds_ok (holds_of s))))

module _ (retired ended : Bool) (tasks : ℕ) (line : List ℕ) (n : ℕ) where
  times-ok : all_of (eqb 0) (codes_from retired ended tasks line n) ≡ true → (ended ≡ true) × TimesOk retired tasks line n
  unfolding codes_from
  times-ok all =
      let at = zero-at (codes_from retired ended tasks line n) all in
      let b = field-zero 0 most (field line n) (omega arith) (at 0 (omega arith)) in
      let f = field-zero (value_of (field line n) + 1) most (field line (n + 1)) (omega arith) (at 1 (omega arith)) in
      let h = holds-zero retired (field line (n + 2)) (at 2 (omega arith)) in
      let a = for-zero (is_after (field line (n + 3))) (after_ok tasks (after_of (field line (n + 3)))) (at 3 (omega arith)) in
      let e = end-zero ended (n + 4) line (at 4 (omega arith)) in (
        e.0,
        record {
          begin = b.spelt;
          finish = f.spelt;
          lasts = omega (arith, f.from);
          to = f.to;
          holds = h.spelt;
          drives = h.fine;
          exclusive = h.exclusive;
          after = a.0;
          order = a.1;
          count = omega (arith, e.1, listed line (n + 3) a.0);
        },
      )

  ok-times : ended ≡ true → TimesOk retired tasks line n → all_of (eqb 0) (codes_from retired ended tasks line n) ≡ true
  unfolding codes_from
  ok-times e t =
      let z = zero_field 0 most (field line n) (omega arith) (record { spelt = t.begin; from = omega arith; to = omega (arith, t.lasts, t.to) }) in
      zeros _ _ z
      (zeros _ _
      (zero_field (value_of (field line n) + 1) most (field line (n + 1)) (omega arith)
      (record { spelt = t.finish; from = omega (arith, t.lasts); to = t.to }))
      (zeros _ _ (zero-holds retired (field line (n + 2)) (record { spelt = t.holds; fine = t.drives; exclusive = t.exclusive }))
      (zeros _ _ (rw (t.after, t.order)) (zeros _ [] (zero-end ended (n + 4) line e (omega (arith, t.count))) no-codes))))

-- ---- the whole line

pub record HeadOk (boards : ℕ) (line : List ℕ) (k : ℕ) : Type 0 where
  pub word : same (field line 0) (bytes "task") ≡ true
  pub spelt : is_number (field line 1) ≡ true
  pub number : value_of (field line 1) ≡ k
  pub board : InRange 1 boards (field line 2)

-- the ready tick of edition 2
abbrev pub ReadyOk : List ℕ → Type 0
ReadyOk line = (is_number (field line 3) ≡ true) × (value_of (field line 3) ≤ value_of (field line 4))

-- where the planned start stands
abbrev pub start_place : ℕ → ℕ
start_place edition = cond (eqb edition 2) 4 3

-- edition 2 no longer takes a shared hold
abbrev pub retired_in : Bool → ℕ → Bool
retired_in mends edition = cond (eqb edition 2) (not mends) false

pub record LineFine (mends : Bool) (edition boards tasks : ℕ) (line : List ℕ) (k : ℕ) : Type 0 where
  pub head : HeadOk boards line k
  pub times : TimesOk (retired_in mends edition) tasks line (start_place edition)
  pub ready : eqb edition 2 ≡ true → ReadyOk line

module _ (line : List ℕ) where
  ready-ok : ready_code line ≡ 0 → ReadyOk line
  unfolding ready_code
  ready-ok z =
      by-eq (field_code 0 most (field line 3)) 0
      (λ e.
      by_bool (ltb (value_of (field line 4)) (value_of (field line 3)))
      (λ l. let q : ◌≡◌ {A = ℕ} 18 0 = rw (eq-eqb (field_code 0 most (field line 3)) 0 e, l) at z in absurd (omega arith))
      (λ l. (
        (field-zero 0 most (field line 3) (omega arith) e).spelt,
        ltb-false (value_of (field line 4)) (value_of (field line 3)) l,
      )))
      (λ n. absurd (n (rw (ne_eqb (field_code 0 most (field line 3)) 0 n) at z)))

  ok-ready : ReadyOk line → field_code 0 most (field line 4) ≡ 0 → ready_code line ≡ 0
  unfolding ready_code
  ok-ready r b =
      let few = (field-zero 0 most (field line 4) (omega arith) b).to in
      let e = zero_field 0 most (field line 3) (omega arith) (record { spelt = r.0; from = omega arith; to = omega (arith, r.1, few) }) in
      rw (e, le-ltb (value_of (field line 4)) (value_of (field line 3)) r.1)

module _ (mends ended : Bool) (edition boards tasks : ℕ) (line : List ℕ) (k : ℕ) (few_boards : boards ≤ most) (few_tasks : k ≤ most) where
  abbrev codes : List ℕ
  codes = task_codes mends ended edition boards tasks line k

  head_ok : all_of (eqb 0) codes ≡ true → HeadOk boards line k
  unfolding task_codes
  head_ok all =
      let at = zero-at codes all in
      let n = field-zero k k (field line 1) few_tasks (at 1 (omega arith)) in
      record {
        word = word-zero (bytes "task") (field line 0) (at 0 (omega arith));
        spelt = n.spelt;
        number = omega (arith, n.from, n.to);
        board = field-zero 1 boards (field line 2) few_boards (at 2 (omega arith));
      }

  -- what follows the first three fields
  abbrev later : List ℕ
  later = cond (eqb edition 2) (ready_code line ∷ codes_from (not mends) ended tasks line 4) (codes_from false ended tasks line 3)

  all-later : all_of (eqb 0) codes ≡ true → all_of (eqb 0) later ≡ true
  unfolding task_codes all_of
  all-later all = and_r (eqb 0 (field_code 1 boards (field line 2))) _ (and_r (eqb 0 (field_code k k (field line 1))) _ (and_r (eqb 0 (word_code (bytes "task") (field line 0))) _ all))

  pub line-fine : all_of (eqb 0) codes ≡ true → (ended ≡ true) × LineFine mends edition boards tasks line k
  unfolding codes_from all_of
  line-fine all =
      by_bool (eqb edition 2)
      (λ e.
      let l : all_of (eqb 0) (ready_code line ∷ codes_from (not mends) ended tasks line 4) ≡ true = rw e at (all-later all) in
      let r = and_r (eqb 0 (ready_code line)) (all_of (eqb 0) (codes_from (not mends) ended tasks line 4)) l in
      let t = times-ok (not mends) ended tasks line 4 r in (
        t.0,
        record {
          head = head_ok all;
          times = rw e t.1;
          ready = λ q. ready-ok line (zero-at (ready_code line ∷ codes_from (not mends) ended tasks line 4) l 0 (omega arith));
        },
      ))
      (λ e.
      let t = times-ok false ended tasks line 3 (rw e at (all-later all)) in
      (t.0, record { head = head_ok all; times = rw e t.1; ready = λ q. true-false q e }))

  pub fine-line : ended ≡ true → LineFine mends edition boards tasks line k → all_of (eqb 0) codes ≡ true
  unfolding task_codes
  fine-line there f =
      let h = f.head in
      zeros _ _ (zero_word (bytes "task") (field line 0) h.word)
      (zeros _ _
      (zero_field k k (field line 1) few_tasks (record { spelt = h.spelt; from = omega (arith, h.number); to = omega (arith, h.number) }))
      (zeros _ _ (zero_field 1 boards (field line 2) few_boards h.board) (rest f.times f.ready)))
    where
      begins : TimesOk (not mends) tasks line 4 → field_code 0 most (field line 4) ≡ 0
      begins t = zero_field 0 most (field line 4) (omega arith) (record { spelt = t.begin; from = omega arith; to = omega (arith, t.lasts, t.to) })

      rest : TimesOk (retired_in mends edition) tasks line (start_place edition) → (eqb edition 2 ≡ true → ReadyOk line) → all_of (eqb 0) later ≡ true
      rest t r =
          by_bool (eqb edition 2)
          (λ e.
          let t' : TimesOk (not mends) tasks line 4 = rw e at t in
          rw e (zeros _ _ (ok-ready line (r e) (begins t')) (ok-times (not mends) ended tasks line 4 there t')))
          (λ e. rw e (ok-times false ended tasks line 3 there (rw e at t)))

  -- each code is 0, 3, 4, 20 or 18
  pub task-kinds : all_of is_code codes ≡ true
  unfolding task_codes codes_from ready_code all_of
  task-kinds =
      and-of (word-is-code (bytes "task") (field line 0))
      (and-of (field-is-code k k (field line 1))
      (and-of (field-is-code 1 boards (field line 2))
      (by_bool (eqb edition 2) (λ e. rw e (and-of ready-is-code (from-kinds (not mends) 4))) (λ e. rw e (from-kinds false 3)))))
    where
      ready-is-code : is_code (ready_code line) ≡ true
      ready-is-code =
          by_bool (eqb (field_code 0 most (field line 3)) 0 && ltb (value_of (field line 4)) (value_of (field line 3)))
          (λ e. rw e eighteen-is-code)
          (λ e. rw e (field-is-code 0 most (field line 3)))

      from-kinds : (retired : Bool) (n : ℕ) → all_of is_code (codes_from retired ended tasks line n) ≡ true
      from-kinds retired n =
          and-of (field-is-code 0 most (field line n))
          (and-of (field-is-code (value_of (field line n) + 1) most (field line (n + 1)))
          (and-of (holds-is-code retired (field line (n + 2)))
          (and-of (for-code (is_after (field line (n + 3))) (after_ok tasks (after_of (field line (n + 3))))) (and-of (end-is-code ended (n + 4) line) refl))))

-- ---- the task that such a line says

module _ (mends : Bool) (edition boards tasks : ℕ) (line : List ℕ) (k : ℕ) (f : LineFine mends edition boards tasks line k) where
  from-ok : {retired : Bool} (ready n : ℕ) → TimesOk retired tasks line n → ready ≤ value_of (field line n) → task_ok boards tasks (task_from line ready n) ≡ true
  unfolding task_from
  from-ok ready n t r =
      and-of
      (and-of (between-of 1 boards (value_of (field line 2)) f.head.board.from f.head.board.to)
      (and-of (le-leb ready (value_of (field line n)) r)
      (and-of (lt-ltb (value_of (field line n)) (value_of (field line (n + 1))) t.lasts) (le-leb (value_of (field line (n + 1))) most t.to))))
      (and-of t.drives t.order)

  pub fine-task : task_ok boards tasks (line_task mends edition line) ≡ true
  unfolding line_task
  fine-task =
      by_bool (eqb edition 2)
      (λ e.
      let t = from-ok (value_of (field line 3)) 4 (rw e at f.times) (f.ready e).1 in
      by_bool mends (λ m. rw (e, m) (exclusive-ok boards tasks (task_from line (value_of (field line 3)) 4) t)) (λ m. rw (e, m) t))
      (λ e. rw e (from-ok 0 3 (rw e at f.times) (omega arith)))

  pub fine-edition : edition_ok edition (line_task mends edition line) ≡ true
  unfolding line_task task_from
  fine-edition =
      by_bool (eqb edition 2)
      (λ e.
      by_bool mends
      (λ m. rw (e, m) (ap not (none-shared (holds_of (field line 6)))))
      (λ m. let t : TimesOk (not mends) tasks line 4 = rw e at f.times in rw (e, m) (ap not (t.exclusive (rw m)))))
      (λ e. rw e)
