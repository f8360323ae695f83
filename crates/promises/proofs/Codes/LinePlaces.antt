-- The codes of a task line, one a field and one for its end.
use Prim.Native.Nat.{ℕ, ◌+◌, ◌≤◌}
use native.Mathlib.Omega.{arith}
use mathlib.Core.Path.{◌≡◌, refl, sym, ap, ◌∙◌}
use mathlib.Core.Bool.{Bool, true, false, not, cond, ◌&&◌}
use mathlib.Core.List.{List}
use lib.Dec.{eqb, leb, ltb}
use lib.ListN.{length}
use borrow.Author.Tests.{lt-ltb, ltb-true}
use Rattle.laws.specs.Lists.{any_of, same}
use Rattle.laws.specs.Split.{index_of}
use Rattle.laws.proofs.Cases.{by_bool, by-eq, by_le}
use Rattle.laws.proofs.Split.{index-found, index-first}
use Rattle.text.specs.Bytes.{bytes}
use Rattle.text.specs.Line.{has_line, skip, line_at, fields, field}
use Rattle.text.specs.Number.{is_number, value_of, most}
use Rattle.text_fields.specs.Items.{between, is_list, list_of, is_hold, hold_of, has_shared, holds_ok, after_ok}
use Rattle.text_fields.specs.Faults.{code_for, word_code, end_code}
use Rattle.text_fields.proofs.FaultLaws.{any_found}
use Rattle.text_fields.proofs.RangedLaws.{field-code}
use Rattle.plan.specs.Value.{at}
use Rattle.plan.specs.Read.{edition_of, boards_of, tasks_of, holds_code, codes_from, ready_code, task_codes}
use Rattle.promises.specs.Says.{codes_of}
use Rattle.promises.specs.Checks.{start_field}
use Rattle.promises.proofs.Codes.FieldCodes.{over}

module _ (mends : Bool) (text : List ℕ) (k : ℕ) where
  abbrev pub line : List ℕ
  line = line_at text k

  abbrev pub ended : Bool
  ended = has_line (skip k text)

  abbrev pub two : Bool
  two = eqb (edition_of text) 2

  abbrev pub p : ℕ
  p = start_field text k

  abbrev pub codes : List ℕ
  codes = codes_of mends text k

  abbrev pub number : ℕ → Bool
  number n = is_number (field line n)

  abbrev pub value : ℕ → ℕ
  value n = value_of (field line n)

  abbrev pub retired : Bool
  retired = cond two (not mends) false

  abbrev pub task-fine : Bool
  task-fine = between k k (value 1)

  abbrev pub board-fine : Bool
  board-fine = between 1 (boards_of text) (value 2)

  abbrev pub late : Bool
  late = ltb (value 4) (value 3)

  abbrev pub finish-fine : Bool
  finish-fine = between (value p + 1) most (value (p + 1))

  abbrev pub after-fine : Bool
  after-fine = after_ok (tasks_of text) (list_of value_of (field line (p + 3)))

  abbrev pub holds : List ℕ
  holds = list_of hold_of (field line (p + 2))

  abbrev pub holds-right : Bool
  holds-right = is_list is_hold (field line (p + 2))

  abbrev pub after-right : Bool
  after-right = is_list is_number (field line (p + 3))

  abbrev pub shared : Bool
  shared = retired && has_shared holds

  codes_all : length codes ≡ p + 5
  unfolding task_codes codes_from
  codes_all = by_bool two (λ e. rw e) (λ e. rw e)

  -- which code it is
  pub data Place (n : ℕ) : Type 0 where
    word : n ≡ 0 → Place n
    task : n ≡ 1 → Place n
    board : n ≡ 2 → Place n
    ready : two ≡ true → n ≡ 3 → Place n
    begin : n ≡ p → Place n
    finish : n ≡ p + 1 → Place n
    holds_field : n ≡ p + 2 → Place n
    after-field : n ≡ p + 3 → Place n
    end : n ≡ p + 4 → Place n

  from_start : (n : ℕ) → p ≤ n → n ≤ p + 4 → Place n
  from_start n l h =
      by-eq n p (λ e. Place.begin e)
      (λ a.
      by-eq n (p + 1) (λ e. Place.finish e)
      (λ b.
      by-eq n (p + 2) (λ e. Place.holds_field e) (λ c. by-eq n (p + 3) (λ e. Place.after-field e) (λ d. Place.end (omega arith)))))

  pub place : (n : ℕ) → n ≤ p + 4 → Place n
  place n h =
      by-eq n 0 (λ e. Place.word e)
      (λ a.
      by-eq n 1 (λ e. Place.task e)
      (λ b.
      by-eq n 2 (λ e. Place.board e)
      (λ c.
      by_bool two
      (λ e.
      let q : p ≡ 4 = rw e in
      by-eq n 3 (λ f. Place.ready e f) (λ d. from_start n (omega arith) h))
      (λ e. let q : p ≡ 3 = rw e in from_start n (omega arith) h))))

  pub some-code : (c : ℕ) → any_of (eqb c) codes ≡ true → (n : ℕ) × (n ≤ p + 4) × (at codes n ≡ c)
  some-code c h =
      let l = ltb-true (index_of c codes) (length codes) (sym (any_found c codes) ∙ h) in
      (index_of c codes, omega (arith, l, codes_all), index-found c codes 0 l)

  pub code-some : (c n : ℕ) → n ≤ p + 4 → at codes n ≡ c → any_of (eqb c) codes ≡ true
  code-some c n h e =
      any_found c codes
      ∙ by_le (index_of c codes) n (λ l. lt-ltb (index_of c codes) (length codes) (omega (arith, l, h, codes_all)))
      (λ l. absurd (index-first c codes 0 n l e))

  -- a code that is read at one place
  pub moved : {n m code : ℕ} → n ≡ m → at codes n ≡ code → at codes m ≡ code
  moved q e = ap (at codes) (sym q) ∙ e

  pub start-range : (3 ≤ p) × (p ≤ 4)
  start-range = by_bool two (λ t. rw t (omega arith, omega arith)) (λ t. rw t (omega arith, omega arith))

  -- what the codes are
  pub record Coded : Type 0 where
    pub at-word : at codes 0 ≡ cond {A = ℕ} (same (field line 0) (bytes "task")) 0 3
    pub at-number : at codes 1 ≡ code_for (number 1) (between k k (value 1))
    pub at-board : at codes 2 ≡ code_for (number 2) (between 1 (boards_of text) (value 2))
    pub at_ready : two ≡ true → at codes 3 ≡ over 18 (number 3) (between 0 most (value 3)) (ltb (value 4) (value 3))
    pub at-begin : at codes p ≡ code_for (number p) (between 0 most (value p))
    pub at-finish : at codes (p + 1) ≡ code_for (number (p + 1)) (between (value p + 1) most (value (p + 1)))
    pub at-holds : at codes (p + 2) ≡ over 20 holds-right (holds_ok holds) shared
    pub at_after : at codes (p + 3) ≡ code_for after-right after-fine
    pub at-end : at codes (p + 4) ≡ cond {A = ℕ} (ended && leb (length (fields line)) (p + 4)) 0 3

  -- the codes of a line, where boards and tasks are few
  module _ (few_boards : boards_of text ≤ most) (few_tasks : k ≤ most) where
    at-word : at codes 0 ≡ cond {A = ℕ} (same (field line 0) (bytes "task")) 0 3
    unfolding task_codes word_code
    at-word = refl

    at-number : at codes 1 ≡ code_for (number 1) (between k k (value 1))
    unfolding task_codes
    at-number = field-code k k (field line 1) few_tasks

    at-board : at codes 2 ≡ code_for (number 2) (between 1 (boards_of text) (value 2))
    unfolding task_codes
    at-board = field-code 1 (boards_of text) (field line 2) few_boards

    at_ready : two ≡ true → at codes 3 ≡ over 18 (number 3) (between 0 most (value 3)) (ltb (value 4) (value 3))
    unfolding task_codes ready_code
    at_ready e = rw (e, field-code 0 most (field line 3) (omega arith))

    at-begin : at codes p ≡ code_for (number p) (between 0 most (value p))
    unfolding task_codes codes_from
    at-begin =
        by_bool two (λ e. rw e (field-code 0 most (field line 4) (omega arith))) (λ e. rw e (field-code 0 most (field line 3) (omega arith)))

    at-finish : at codes (p + 1) ≡ code_for (number (p + 1)) (between (value p + 1) most (value (p + 1)))
    unfolding task_codes codes_from
    at-finish =
        by_bool two (λ e. rw e (field-code (value 4 + 1) most (field line 5) (omega arith)))
        (λ e. rw e (field-code (value 3 + 1) most (field line 4) (omega arith)))

    at-holds : at codes (p + 2) ≡ over 20 holds-right (holds_ok holds) shared
    unfolding task_codes codes_from holds_code
    at-holds = by_bool two (λ e. rw e) (λ e. rw e)

    at_after : at codes (p + 3) ≡ code_for after-right after-fine
    unfolding task_codes codes_from
    at_after = by_bool two (λ e. rw e) (λ e. rw e)

    at-end : at codes (p + 4) ≡ cond {A = ℕ} (ended && leb (length (fields line)) (p + 4)) 0 3
    unfolding task_codes codes_from end_code
    at-end = by_bool two (λ e. rw e) (λ e. rw e)

    pub coded : Coded
    coded = record {
      at-word = at-word;
      at-number = at-number;
      at-board = at-board;
      at_ready = at_ready;
      at-begin = at-begin;
      at-finish = at-finish;
      at-holds = at-holds;
      at_after = at_after;
      at-end = at-end;
    }
