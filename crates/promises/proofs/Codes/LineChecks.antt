-- What a task line is refused by, in the order of its checks.
use Prim.Native.Nat.{ℕ, ◌+◌, ◌≤◌, ◌<◌}
use native.Mathlib.Omega.{arith}
use mathlib.Core.Path.{◌≡◌, refl, sym, ap, ◌∙◌}
use mathlib.Core.Logic.{◌↔◌, ◌⊎◌, inl, inr, ⊎_elim}
use mathlib.Core.Bool.{Bool, true, false, not, cond, ◌&&◌}
use mathlib.Core.List.{List}
use lib.Dec.{eqb, leb}
use lib.ListN.{length}
use borrow.Author.Tests.{eq-eqb, eqb-true, lt-ltb, ltb-true, not-true}
use Rattle.laws.specs.Lists.{any_of, same}
use Rattle.laws.proofs.Cases.{by_bool, by_le, and_l, and_r, and-of, true-false}
use Rattle.text.specs.Bytes.{bytes}
use Rattle.text.specs.Line.{fields, field}
use Rattle.text.specs.Number.{most}
use Rattle.text_fields.specs.Items.{between, list_of, hold_of, has_shared, holds_ok}
use Rattle.text_fields.specs.Faults.{code_for, worst}
use Rattle.plan.specs.Value.{at}
use Rattle.plan.specs.Read.{edition_of, boards_of}
use Rattle.promises.specs.Says.{codes_of}
use Rattle.promises.specs.Ladder.{Ladder}
use Rattle.promises.specs.Checks.{Misspelt, OutOfRange, line_checks}
use Rattle.promises.proofs.Ladder.{First, first_by, ladder_of}
use Rattle.promises.proofs.Codes.FieldCodes.{four-of, most-four, over-low, over-high, of_four, over-four, over-more, outside_of, of-outside}
use Rattle.promises.proofs.Codes.LinePlaces as places
use Rattle.promises.proofs.Codes.LinePlaces.{Place, Coded, place, some-code, code-some, moved, start-range, coded}
use Rattle.promises.proofs.Codes.LineSpelling.{three-is}

module _ (mends : Bool) (text : List ℕ) (k : ℕ) (c : Coded mends text k) where
  abbrev line : List ℕ
  line = places.line mends text k

  abbrev ended : Bool
  ended = places.ended mends text k

  abbrev two : Bool
  two = places.two mends text k

  abbrev p : ℕ
  p = places.p mends text k

  abbrev codes : List ℕ
  codes = places.codes mends text k

  abbrev number : ℕ → Bool
  number = places.number mends text k

  abbrev value : ℕ → ℕ
  value = places.value mends text k

  abbrev retired : Bool
  retired = places.retired mends text k

  abbrev task-fine : Bool
  task-fine = places.task-fine mends text k

  abbrev board-fine : Bool
  board-fine = places.board-fine mends text k

  abbrev late : Bool
  late = places.late mends text k

  abbrev finish-fine : Bool
  finish-fine = places.finish-fine mends text k

  abbrev after-fine : Bool
  after-fine = places.after-fine mends text k

  abbrev holds : List ℕ
  holds = places.holds mends text k

  abbrev holds-right : Bool
  holds-right = places.holds-right mends text k

  abbrev after-right : Bool
  after-right = places.after-right mends text k

  abbrev shared : Bool
  shared = places.shared mends text k

  open c use {at-word, at-number, at-board, at_ready, at-begin, at-finish, at-holds, at_after, at-end}

  -- ---- 4, where nothing is misspelt
  module _ (fine-spelt : Misspelt text k → ⊥) where
    spelt : (n : ℕ) → 1 ≤ n → n ≤ p + 1 → number n ≡ true
    spelt n a b = by_bool (number n) (λ e. e) (λ e. absurd (fine-spelt (Misspelt.number n a b e)))

    holds-spelt : holds-right ≡ true
    holds-spelt = by_bool holds-right (λ e. e) (λ e. absurd (fine-spelt (Misspelt.holds e)))

    after-spelt : after-right ≡ true
    after-spelt = by_bool after-right (λ e. e) (λ e. absurd (fine-spelt (Misspelt.after e)))

    -- a tick that is out of its range is past 1,000,000
    tick-past : (n : ℕ) → 3 ≤ n → n ≤ p + 1 → between 0 most (value n) ≡ false → OutOfRange text k
    tick-past n a b e = OutOfRange.tick n a b (⊎_elim (λ l. absurd (omega arith)) (λ l. l) (outside_of 0 most (value n) e))

    range_at : (n : ℕ) → n ≤ p + 4 → at codes n ≡ 4 → OutOfRange text k
    range_at n h e = go (place mends text k n h)
      where
        r : (3 ≤ p) × (p ≤ 4)
        r = start-range mends text k

        go : Place mends text k n → OutOfRange text k
        go (Place.word q) =
            let z : cond {A = ℕ} (same (field line 0) (bytes "task")) 0 3 ≡ 4 = sym at-word ∙ moved mends text k q e in
            by_bool (same (field line 0) (bytes "task"))
            (λ t. let y : ◌≡◌ {A = ℕ} 0 4 = rw t at z in absurd (omega arith))
            (λ t. let y : ◌≡◌ {A = ℕ} 3 4 = rw t at z in absurd (omega arith))
        go (Place.task q) =
            OutOfRange.number (λ z.
            ⊎_elim (λ l. omega arith) (λ l. omega arith) (outside_of k k (value 1) (four-of (number 1) task-fine (sym at-number ∙ moved mends text k q e))))
        go (Place.board q) = OutOfRange.board (outside_of 1 (boards_of text) (value 2) (four-of (number 2) board-fine (sym at-board ∙ moved mends text k q e)))
        go (Place.ready t q) =
            tick-past 3 (omega arith) (omega (arith, r))
            (four-of (number 3) (between 0 most (value 3)) (over-low 18 (omega arith) (number 3) (between 0 most (value 3)) late 4 (omega arith) (sym (at_ready t) ∙ moved mends text k q e)))
        go (Place.begin q) = tick-past p (omega (arith, r)) (omega arith) (four-of (number p) (between 0 most (value p)) (sym at-begin ∙ moved mends text k q e))
        go (Place.finish q) =
            ⊎_elim (λ l. OutOfRange.finish (omega arith)) (λ l. OutOfRange.tick (p + 1) (omega (arith, r)) (omega arith) l)
            (outside_of (value p + 1) most (value (p + 1)) (four-of (number (p + 1)) finish-fine (sym at-finish ∙ moved mends text k q e)))
        go (Place.holds_field q) =
            OutOfRange.holds (four-of holds-right (holds_ok holds) (over-low 20 (omega arith) holds-right (holds_ok holds) shared 4 (omega arith) (sym at-holds ∙ moved mends text k q e)))
        go (Place.after-field q) = OutOfRange.after (four-of after-right after-fine (sym at_after ∙ moved mends text k q e))
        go (Place.end q) =
            let z : cond {A = ℕ} (ended && leb (length (fields line)) (p + 4)) 0 3 ≡ 4 = sym at-end ∙ moved mends text k q e in
            by_bool (ended && leb (length (fields line)) (p + 4))
            (λ t. let y : ◌≡◌ {A = ℕ} 0 4 = rw t at z in absurd (omega arith))
            (λ t. let y : ◌≡◌ {A = ℕ} 3 4 = rw t at z in absurd (omega arith))

    r : (3 ≤ p) × (p ≤ 4)
    r = start-range mends text k

    at-range : OutOfRange text k → (n : ℕ) × (n ≤ p + 4) × (at codes n ≡ 4)
    at-range (OutOfRange.number d) =
        (1, omega arith, at-number ∙ of_four (spelt 1 (omega arith) (omega (arith, r))) (of-outside k k (value 1) (by_le k (value 1) (λ l. inr (omega arith)) (λ l. inl l))))
    at-range (OutOfRange.board d) =
        (2, omega (arith, r), at-board ∙ of_four (spelt 2 (omega arith) (omega (arith, r))) (of-outside 1 (boards_of text) (value 2) d))
    at-range (OutOfRange.tick n a b d) = (n, omega arith, go (place mends text k n (omega arith)))
      where
        here : (m : ℕ) → n ≡ m → most < value m
        here m q = rw (← q) d

        there : (m : ℕ) → n ≡ m → number m ≡ true
        there m q = rw (← q) (spelt n (omega arith) b)

        go : Place mends text k n → at codes n ≡ 4
        go (Place.word q) = absurd (omega arith)
        go (Place.task q) = absurd (omega arith)
        go (Place.board q) = absurd (omega arith)
        go (Place.ready t q) = ap (at codes) q ∙ at_ready t ∙ over-four 18 late (there 3 q) (of-outside 0 most (value 3) (inr (here 3 q)))
        go (Place.begin q) = ap (at codes) q ∙ at-begin ∙ of_four (there p q) (of-outside 0 most (value p) (inr (here p q)))
        go (Place.finish q) =
            ap (at codes) q ∙ at-finish ∙ of_four (there (p + 1) q) (of-outside (value p + 1) most (value (p + 1)) (inr (here (p + 1) q)))
        go (Place.holds_field q) = absurd (omega arith)
        go (Place.after-field q) = absurd (omega arith)
        go (Place.end q) = absurd (omega arith)
    at-range (OutOfRange.finish d) =
        (p + 1, omega arith, at-finish ∙ of_four (spelt (p + 1) (omega (arith, r)) (omega arith)) (of-outside (value p + 1) most (value (p + 1)) (inl (omega arith))))
    at-range (OutOfRange.holds d) = (p + 2, omega arith, at-holds ∙ over-four 20 shared holds-spelt d)
    at-range (OutOfRange.after d) = (p + 3, omega arith, at_after ∙ of_four after-spelt d)

    four_is : (any_of (eqb 4) codes ≡ true) ↔ OutOfRange text k
    four_is = (λ h. let s = some-code mends text k 4 h in range_at s.0 s.1 s.2, λ m. let s = at-range m in code-some mends text k 4 s.0 s.1 s.2)

    -- ---- 20 and 18, where all is in range
    module _ (fine-range : OutOfRange text k → ⊥) where
      holds-fine : holds_ok holds ≡ true
      holds-fine = by_bool (holds_ok holds) (λ e. e) (λ e. absurd (fine-range (OutOfRange.holds e)))

      -- a number past 4 stands in edition 2, at the ready field or at the holds
      high-at :
          (c : ℕ) → 4 < c → (n : ℕ) → n ≤ p + 4 → at codes n ≡ c
          → ((two ≡ true) × (c ≡ 18) × (late ≡ true)) ⊎ ((c ≡ 20) × (retired ≡ true) × (has_shared holds ≡ true))
      high-at c high n h e = go (place mends text k n h)
        where
          never : (a b : Bool) → code_for a b ≡ c → ⊥
          never a b z = omega (arith, most-four a b, z)

          low : (t : Bool) → cond {A = ℕ} t 0 3 ≡ c → ⊥
          low true z = omega arith
          low false z = omega arith

          go : Place mends text k n → ((two ≡ true) × (c ≡ 18) × (late ≡ true)) ⊎ ((c ≡ 20) × (retired ≡ true) × (has_shared holds ≡ true))
          go (Place.word q) = absurd (low (same (field line 0) (bytes "task")) (sym at-word ∙ moved mends text k q e))
          go (Place.task q) = absurd (never (number 1) task-fine (sym at-number ∙ moved mends text k q e))
          go (Place.board q) = absurd (never (number 2) board-fine (sym at-board ∙ moved mends text k q e))
          go (Place.ready t q) =
              let o = over-high 18 (omega arith) (number 3) (between 0 most (value 3)) late c high (sym (at_ready t) ∙ moved mends text k q e) in
              inl (t, sym o.1, o.0)
          go (Place.begin q) = absurd (never (number p) (between 0 most (value p)) (sym at-begin ∙ moved mends text k q e))
          go (Place.finish q) = absurd (never (number (p + 1)) finish-fine (sym at-finish ∙ moved mends text k q e))
          go (Place.holds_field q) =
              let o = over-high 20 (omega arith) holds-right (holds_ok holds) shared c high (sym at-holds ∙ moved mends text k q e) in
              inr (sym o.1, and_l retired (has_shared holds) o.0, and_r retired (has_shared holds) o.0)
          go (Place.after-field q) = absurd (never after-right after-fine (sym at_after ∙ moved mends text k q e))
          go (Place.end q) = absurd (low (ended && leb (length (fields line)) (p + 4)) (sym at-end ∙ moved mends text k q e))

      abbrev SharedHere : Type 0
      SharedHere = (mends ≡ false) × (edition_of text ≡ 2) × (has_shared (list_of hold_of (field line 6)) ≡ true)

      abbrev LateHere : Type 0
      LateHere = (edition_of text ≡ 2) × (value 4 < value 3)

      shared-there : retired ≡ true → has_shared holds ≡ true → SharedHere
      shared-there r s =
          by_bool two
          (λ t.
          let m : not mends ≡ true = rw t at r in
          (not-true mends m, eqb-true (edition_of text) 2 t, rw t at s))
          (λ t. let z : false ≡ true = rw t at r in true-false z refl)

      shared_back : SharedHere → (retired ≡ true) × (has_shared holds ≡ true)
      shared_back s = let t = eq-eqb (edition_of text) 2 s.1 in (rw (t, s.0), rw t s.2)

      twenty-is : (any_of (eqb 20) codes ≡ true) ↔ SharedHere
      twenty-is = (
        λ h.
            let s = some-code mends text k 20 h in
            ⊎_elim (λ r. let z = r.1 in absurd (omega arith)) (λ r. shared-there r.1 r.2) (high-at 20 (omega arith) s.0 s.1 s.2),
        λ s.
            let b = shared_back s in
            code-some mends text k 20 (p + 2) (omega arith) (at-holds ∙ over-more 20 holds-spelt holds-fine (and-of b.0 b.1)),
      )

      ready-fine : two ≡ true → between 0 most (value 3) ≡ true
      ready-fine t =
          let q : p ≡ 4 = rw t in
          by_bool (between 0 most (value 3)) (λ e. e) (λ e. absurd (fine-range (tick-past 3 (omega arith) (omega arith) e)))

      eighteen-is : (any_of (eqb 18) codes ≡ true) ↔ LateHere
      eighteen-is = (
        λ h.
            let s = some-code mends text k 18 h in
            ⊎_elim (λ r. (eqb-true (edition_of text) 2 r.0, ltb-true (value 4) (value 3) r.2)) (λ r. let z = r.0 in absurd (omega arith))
            (high-at 18 (omega arith) s.0 s.1 s.2),
        λ s.
            let t = eq-eqb (edition_of text) 2 s.0 in
            let q : p ≡ 4 = rw t in
            code-some mends text k 18 3 (omega arith) (at_ready t ∙ over-more 18 (spelt 3 (omega arith) (omega arith)) (ready-fine t) (lt-ltb (value 4) (value 3) s.1)),
      )

  line_first : First (line_checks mends text k) (worst codes)
  unfolding worst
  line_first =
      first_by (any_of (eqb 3) codes) _ _ (three-is mends text k c) (λ three.
      first_by (any_of (eqb 4) codes) _ _ (four_is three) (λ four.
      first_by (any_of (eqb 20) codes) _ _ (twenty-is three four) (λ twenty.
      first_by (any_of (eqb 18) codes) _ _ (eighteen-is three four) (λ eighteen. First.end refl))))

pub line-ladder :
    (mends : Bool) (text : List ℕ) (k : ℕ) → boards_of text ≤ most → k ≤ most → Ladder (line_checks mends text k) (worst (codes_of mends text k))
line-ladder mends text k few_boards few_tasks =
    ladder_of (line_checks mends text k) (worst (codes_of mends text k)) refl (line_first mends text k (coded mends text k few_boards few_tasks))
