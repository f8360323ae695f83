-- The codes of a task line, and the column that a refused one names.
use Prim.Native.Nat.{ℕ, zero, suc, ◌+◌, ◌≤◌, ◌<◌}
use mathlib.Core.Path.{◌≡◌, refl, sym, ap, ◌∙◌}
use mathlib.Core.Logic.{◌≢◌, inl}
use mathlib.Core.Bool.{Bool, true, false, not, cond, ◌&&◌}
use mathlib.Core.List.{List, ◌∷◌}
use native.Mathlib.Omega.{arith}
use lib.Dec.{eqb, ltb}
use lib.ListN.{length}
use borrow.Author.Tests.{eq-eqb, ne_eqb, ltb-true, not-true}
use Rattle.laws.proofs.Cases.{by_bool, by-eq, and_l, and_r, and_no}
use Rattle.laws.specs.Lists.{all_of, same}
use Rattle.laws.specs.Split.{index_of, begin_of, split_on}
use Rattle.laws.proofs.Split.{index-found}
use Rattle.text.specs.Bytes.{bytes}
use Rattle.text.specs.Number.{is_number, value_of, most, number_of}
use Rattle.text.specs.Line.{TAB, fields, field}
use Rattle.text_fields.specs.Items.{is_list, list_of, is_hold, hold_of, has_shared, holds_ok, after_ok}
use Rattle.text_fields.specs.Faults.{code_for, field_code, word_code, end_code, worst, column_of}
use Rattle.text_fields.proofs.FaultLaws.{faultless-is, zero-at}
use Rattle.plan.specs.Value.{at}
use Rattle.plan.specs.Read.{holds_code, codes_from, ready_code, task_codes}
use Rattle.plan.proofs.LineCodes.{task-kinds}
use Rattle.promises.specs.Columns.{ColumnSays}
use Rattle.text_fields.proofs.Alike.{Plain, field_plain}
use Rattle.promises.proofs.Codes.Columns.{worst-is, plain-not, for-plain, word-plain, end-plain, column-says, no_field}

-- where nothing is retired a holds field is refused by its spelling and its range alone
pub holds-first : (s : List ℕ) → holds_code false s ≡ code_for (is_list is_hold s) (holds_ok (list_of hold_of s))
unfolding holds_code
holds-first s = rw (and_no (eqb (code_for (is_list is_hold s) (holds_ok (list_of hold_of s))) 0))

-- a missing field counts as an empty one, and no reader takes that
module _ (line : List ℕ) where
  module _ (mends ended : Bool) (edition boards tasks k : ℕ) where
    abbrev codes : List ℕ
    codes = task_codes mends ended edition boards tasks line k

    -- a task line has seven fields, eight in edition 2
    abbrev width : ℕ
    width = cond (eqb edition 2) 8 7

    from-missing : (retired : Bool) (n m : ℕ) → m < 4 → length (fields line) ≤ n + m → at (codes_from retired ended tasks line n) m ≡ 3
    unfolding codes_from holds_code same number_of is_number is_list split_on all_of is_hold
    from-missing retired n zero h few = rw (no_field line n (omega arith))
    from-missing retired n (suc zero) h few = rw (no_field line (n + 1) (omega arith))
    from-missing retired n (suc (suc zero)) h few = rw (no_field line (n + 2) (omega arith))
    from-missing retired n (suc (suc (suc zero))) h few = rw (no_field line (n + 3) (omega arith))
    from-missing retired n (suc (suc (suc (suc m)))) h few = absurd (omega arith)

    ready-missing : (m : ℕ) → m < 5 → length (fields line) ≤ 3 + m → at (ready_code line ∷ codes_from (not mends) ended tasks line 4) m ≡ 3
    unfolding ready_code number_of is_number
    ready-missing zero h few = rw (no_field line 3 few)
    ready-missing (suc m) h few = from-missing (not mends) 4 m (omega arith) (omega arith)

    pub task-missing : (n : ℕ) → n < width → length (fields line) ≤ n → at codes n ≡ 3
    unfolding task_codes word_code same number_of is_number
    task-missing zero h few = rw (no_field line 0 few)
    task-missing (suc zero) h few = rw (no_field line 1 few)
    task-missing (suc (suc zero)) h few = rw (no_field line 2 few)
    task-missing (suc (suc (suc m))) h few =
        by_bool (eqb edition 2)
        (λ e. let l : suc (suc (suc m)) < 8 = rw e at h in rw e (ready-missing m (omega arith) (omega arith)))
        (λ e. let l : suc (suc (suc m)) < 7 = rw e at h in rw e (from-missing false 3 m (omega arith) (omega arith)))

    codes_all : length codes ≡ width + 1
    unfolding task_codes codes_from
    codes_all = by_bool (eqb edition 2) (λ e. rw e) (λ e. rw e)

    code-last : at codes width ≡ end_code ended width line
    unfolding task_codes codes_from
    code-last = by_bool (eqb edition 2) (λ e. rw e) (λ e. rw e)

    pub task-column : worst codes ≢ 0 → ColumnSays width ended line codes (worst codes) (column_of line codes (worst codes))
    task-column = column-says width ended line codes codes_all code-last task-missing

    pub task-faultless : boards ≤ 1000000 → k ≤ 1000000 → worst codes ≡ 0 → (n : ℕ) → n ≤ width → at codes n ≡ 0
    task-faultless few_boards few_tasks z n h =
        let clean = faultless-is codes (task-kinds mends ended edition boards tasks line k few_boards few_tasks) ∙ eq-eqb (worst codes) 0 z in
        zero-at codes clean n (omega (arith, codes_all))

    -- ---- 18 and 20
    from-plain : (retired : Bool) (n m : ℕ) → m ≢ 2 → Plain (at (codes_from retired ended tasks line n) m)
    unfolding codes_from
    from-plain retired n zero d = field_plain 0 most (field line n)
    from-plain retired n (suc zero) d = field_plain (value_of (field line n) + 1) most (field line (n + 1))
    from-plain retired n (suc (suc zero)) d = absurd (d refl)
    from-plain retired n (suc (suc (suc zero))) d = for-plain (is_list is_number (field line (n + 3))) (after_ok tasks (list_of value_of (field line (n + 3))))
    from-plain retired n (suc (suc (suc (suc zero)))) d = end-plain ended (n + 4) line
    from-plain retired n (suc (suc (suc (suc (suc m))))) d = inl refl

    -- the holds: nothing is retired, or 20 for a shared one
    holds_plain : (s : List ℕ) → Plain (holds_code false s)
    holds_plain s = rw (holds-first s) (for-plain (is_list is_hold s) (holds_ok (list_of hold_of s)))

    holds-shared : (retired : Bool) (s : List ℕ) → holds_code retired s ≡ 20 → (retired ≡ true) × (has_shared (list_of hold_of s) ≡ true)
    unfolding holds_code
    holds-shared retired s z =
        let code = code_for (is_list is_hold s) (holds_ok (list_of hold_of s)) in
        by_bool (eqb code 0 && (retired && has_shared (list_of hold_of s)))
        (λ e.
        let both = and_r (eqb code 0) (retired && has_shared (list_of hold_of s)) e in
        (and_l retired (has_shared (list_of hold_of s)) both, and_r retired (has_shared (list_of hold_of s)) both))
        (λ e. absurd (plain-not (for-plain (is_list is_hold s) (holds_ok (list_of hold_of s))) 20 (omega arith) (rw e at z)))

    holds_not : (retired : Bool) (s : List ℕ) → holds_code retired s ≢ 18
    unfolding holds_code
    holds_not retired s z =
        let code = code_for (is_list is_hold s) (holds_ok (list_of hold_of s)) in
        by_bool (eqb code 0 && (retired && has_shared (list_of hold_of s)))
        (λ e. let q : ◌≡◌ {A = ℕ} 20 18 = rw e at z in omega arith)
        (λ e. plain-not (for-plain (is_list is_hold s) (holds_ok (list_of hold_of s))) 18 (omega arith) (rw e at z))

    -- edition 1 has neither
    pub first_plain : edition ≢ 2 → (n : ℕ) → Plain (at codes n)
    unfolding task_codes codes_from
    first_plain o zero = word-plain (bytes "task") (field line 0)
    first_plain o (suc zero) = field_plain k k (field line 1)
    first_plain o (suc (suc zero)) = field_plain 1 boards (field line 2)
    first_plain o (suc (suc (suc m))) = rw (ne_eqb edition 2 o) (by-eq m 2 (λ e. rw e third) (λ d. from-plain false 3 m d))
      where
        third : Plain (at (codes_from false ended tasks line 3) 2)
        third = holds_plain (field line 5)

    -- edition 2 has them at the ready field and at the holds alone
    second_plain : edition ≡ 2 → (n : ℕ) → n ≢ 3 → n ≢ 6 → Plain (at codes n)
    unfolding task_codes
    second_plain o zero d f = word-plain (bytes "task") (field line 0)
    second_plain o (suc zero) d f = field_plain k k (field line 1)
    second_plain o (suc (suc zero)) d f = field_plain 1 boards (field line 2)
    second_plain o (suc (suc (suc zero))) d f = absurd (d refl)
    second_plain o (suc (suc (suc (suc m)))) d f = rw (eq-eqb edition 2 o) (from-plain (not mends) 4 m (λ e. f (ap (λ (x : ℕ). suc (suc (suc (suc x)))) e)))

    places : edition ≡ 2 → (at codes 3 ≡ ready_code line) × (at codes 6 ≡ holds_code (not mends) (field line 6))
    unfolding task_codes codes_from
    places o = (rw (eq-eqb edition 2 o), rw (eq-eqb edition 2 o))

    ready-late : ready_code line ≡ 18 → value_of (field line 4) < value_of (field line 3)
    unfolding ready_code
    ready-late z =
        by_bool (eqb (field_code 0 most (field line 3)) 0 && ltb (value_of (field line 4)) (value_of (field line 3)))
        (λ e. ltb-true (value_of (field line 4)) (value_of (field line 3)) (and_r (eqb (field_code 0 most (field line 3)) 0) _ e))
        (λ e. absurd (plain-not (field_plain 0 most (field line 3)) 18 (omega arith) (rw e at z)))

    ready-not : ready_code line ≢ 20
    unfolding ready_code
    ready-not z =
        by_bool (eqb (field_code 0 most (field line 3)) 0 && ltb (value_of (field line 4)) (value_of (field line 3)))
        (λ e. let q : ◌≡◌ {A = ℕ} 18 20 = rw e at z in omega arith)
        (λ e. plain-not (field_plain 0 most (field line 3)) 20 (omega arith) (rw e at z))

    -- such a code stands where the column is, in a line of edition 2, at the ready field or at the holds
    module _ (other : ℕ) (high : 4 < other) (z : worst codes ≡ other) where
      abbrev found : ℕ
      found = index_of (worst codes) codes

      not-zero : worst codes ≢ 0
      not-zero e = omega arith

      stands : at codes found ≡ other
      stands = index-found (worst codes) codes 0 (worst-is codes not-zero).found ∙ z

      second : edition ≡ 2
      second = by-eq edition 2 (λ e. e) (λ d. absurd (plain-not (first_plain d found) other high stands))

      at_one : (found ≢ 3 → found ≡ 6)
      at_one d = by-eq found 6 (λ e. e) (λ f. absurd (plain-not (second_plain second found d f) other high stands))

    -- 20: the line is one of edition 2, it has a shared hold, and its holds field is the one named
    pub task-shared :
        worst codes ≡ 20
        → (mends ≡ false) × (edition ≡ 2) × (has_shared (list_of hold_of (field line 6)) ≡ true)
        × (column_of line codes (worst codes) ≡ begin_of TAB line 6 + 1)
    task-shared z =
        let high : 4 < 20 = omega arith in
        let o = second 20 high z in
        let here = at_one 20 high z (λ e. ready-not (sym (places o).0 ∙ ap (at codes) (sym e) ∙ stands 20 high z)) in
        let s = holds-shared (not mends) (field line 6) (sym (places o).1 ∙ ap (at codes) (sym here) ∙ stands 20 high z) in
        (not-true mends s.0, o, s.1, ap (λ (m : ℕ). begin_of TAB line m + 1) here)

    -- 18: the line is one of edition 2, its ready tick is after its planned start, and its ready field is the one named
    pub task-unready :
        worst codes ≡ 18
        → (edition ≡ 2) × (value_of (field line 4) < value_of (field line 3))
        × (column_of line codes (worst codes) ≡ begin_of TAB line 3 + 1)
    task-unready z =
        let high : 4 < 18 = omega arith in
        let o = second 18 high z in
        let here : index_of (worst codes) codes ≡ 3 =
        by-eq (index_of (worst codes) codes) 3 (λ e. e)
        (λ d.
        let six = at_one 18 high z d in
        absurd (holds_not (not mends) (field line 6) (sym (places o).1 ∙ ap (at codes) (sym six) ∙ stands 18 high z))) in
        let late = ready-late (sym (places o).0 ∙ ap (at codes) (sym here) ∙ stands 18 high z) in
        (o, late, ap (λ (m : ℕ). begin_of TAB line m + 1) here)
