-- What a line of ends.txt says, and the column that a refused one names.
use Prim.Native.Nat.{ℕ, zero, suc, ◌≤◌, ◌<◌}
use mathlib.Core.Path.{◌≡◌, refl, sym, ap, ◌∙◌}
use mathlib.Core.Logic.{◌≢◌, inl}
use mathlib.Core.Bool.{Bool, true, false}
use mathlib.Core.List.{List, [], ◌∷◌}
use native.Mathlib.Omega.{arith}
use lib.ListN.{length}
use borrow.Author.Tests.{eq-eqb}
use Rattle.laws.proofs.Cases.{by_bool, by-eq, by_le, and-of, true-false}
use Rattle.laws.specs.Lists.{all_of, same}
use Rattle.laws.specs.Split.{before}
use Rattle.text.specs.Bytes.{bytes}
use Rattle.text.specs.Number.{is_number, value_of, most, number_of}
use Rattle.text.specs.Line.{LF, has_line, fields, field}
use Rattle.text_fields.specs.Faults.{word_code, field_codes, worst, column_of}
use Rattle.plan.specs.Value.{at}
use Rattle.log_read.specs.Entries.{end_codes, drop_codes, entry_of, next_entry}
use Rattle.log_read.specs.Said.Entry.{End, Drop, Refused}
use Rattle.promises.specs.Columns.{ColumnSays}
use Rattle.promises.specs.Says.{entry_answer, EntrySays}
use Rattle.text_fields.proofs.FaultLaws.{field-is-code, word-is-code, end-is-code, faultless-is, zero-at, word-zero, end-zero}
use Rattle.text_fields.proofs.UnlessLaws.{fault-none, fault-some}
use Rattle.text_fields.proofs.RangedLaws.{field-zero}
use Rattle.text.proofs.Numerals.{number-spelt}
use Rattle.laws.proofs.Seams.{places-own}
use Rattle.laws.proofs.Lists.{same-eq}
use Rattle.laws.specs.Digits.{digits_of}
use Rattle.text_fields.proofs.Alike.{Plain, field_plain}
use Rattle.promises.proofs.Codes.Columns.{word-plain, end-plain, worst-plain, column-says, no_field}

module _ (line : List ℕ) (ended : Bool) where
  end-missing : (n : ℕ) → n < 3 → length (fields line) ≤ n → at (end_codes ended line) n ≡ 3
  unfolding end_codes field_codes word_code same number_of is_number
  end-missing zero h few = rw (no_field line 0 few)
  end-missing (suc zero) h few = rw (no_field line 1 few)
  end-missing (suc (suc zero)) h few = rw (no_field line 2 few)
  end-missing (suc (suc (suc n))) h few = absurd (omega arith)

  end-plain-at : (n : ℕ) → Plain (at (end_codes ended line) n)
  unfolding end_codes field_codes
  end-plain-at zero = word-plain _ _
  end-plain-at (suc zero) = field_plain _ _ _
  end-plain-at (suc (suc zero)) = field_plain _ _ _
  end-plain-at (suc (suc (suc zero))) = end-plain ended 3 line
  end-plain-at (suc (suc (suc (suc n)))) = inl refl

  end-column : worst (end_codes ended line) ≢ 0 → ColumnSays 3 ended line (end_codes ended line) (worst (end_codes ended line)) (column_of line (end_codes ended line) (worst (end_codes ended line)))
  unfolding end_codes field_codes
  end-column = column-says 3 ended line (end_codes ended line) refl refl end-missing

  drop-missing : (n : ℕ) → n < 2 → length (fields line) ≤ n → at (drop_codes ended line) n ≡ 3
  unfolding drop_codes field_codes word_code same number_of is_number
  drop-missing zero h few = rw (no_field line 0 few)
  drop-missing (suc zero) h few = rw (no_field line 1 few)
  drop-missing (suc (suc n)) h few = absurd (omega arith)

  drop-plain-at : (n : ℕ) → Plain (at (drop_codes ended line) n)
  unfolding drop_codes field_codes
  drop-plain-at zero = word-plain _ _
  drop-plain-at (suc zero) = field_plain _ _ _
  drop-plain-at (suc (suc zero)) = end-plain ended 2 line
  drop-plain-at (suc (suc (suc n))) = inl refl

  drop-column : worst (drop_codes ended line) ≢ 0 → ColumnSays 2 ended line (drop_codes ended line) (worst (drop_codes ended line)) (column_of line (drop_codes ended line) (worst (drop_codes ended line)))
  unfolding drop_codes field_codes
  drop-column = column-says 2 ended line (drop_codes ended line) refl refl drop-missing

-- a faultless line is its word and its numbers
module _ (line : List ℕ) (ended : Bool) where
  -- a number's field is there
  there : (n : ℕ) → is_number (field line n) ≡ true → n < length (fields line)
  unfolding is_number
  there n e =
      by_le (length (fields line)) n
      (λ few. let z : false ≡ true = rw (no_field line n few) at e in true-false z refl)
      (λ l. l)

  end-spelt :
      worst (end_codes ended line) ≡ 0
      → (ended ≡ true)
      × (fields line ≡ bytes "end" ∷ digits_of (value_of (field line 1)) ∷ digits_of (value_of (field line 2)) ∷ [])
      × (value_of (field line 1) ≤ most) × (value_of (field line 2) ≤ most)
  unfolding end_codes field_codes all_of
  end-spelt z =
      let kinds =
      and-of (word-is-code (bytes "end") (field line 0))
      (and-of (field-is-code 0 most (field line 1)) (and-of (field-is-code 0 most (field line 2)) (and-of (end-is-code ended 3 line) refl))) in
      let all = zero-at (end_codes ended line) (faultless-is (end_codes ended line) kinds ∙ eq-eqb (worst (end_codes ended line)) 0 z) in
      let a = field-zero 0 most (field line 1) (omega arith) (all 1 (omega arith)) in
      let b = field-zero 0 most (field line 2) (omega arith) (all 2 (omega arith)) in
      let e = end-zero ended 3 line (all 3 (omega arith)) in
      let word = same-eq (field line 0) (bytes "end") (word-zero (bytes "end") (field line 0) (all 0 (omega arith))) in
      let one = number-spelt (field line 1) a.spelt in
      let two = number-spelt (field line 2) b.spelt in
      let own = places-own (fields line) [] 3 (omega (arith, e.1, there 2 b.spelt)) in
      (e.0, sym own ∙ (λ i. word i ∷ sym one i ∷ sym two i ∷ []), a.to, b.to)

  drop-spelt :
      worst (drop_codes ended line) ≡ 0
      → (ended ≡ true) × (fields line ≡ bytes "drop" ∷ digits_of (value_of (field line 1)) ∷ []) × (value_of (field line 1) ≤ most)
  unfolding drop_codes field_codes all_of
  drop-spelt z =
      let kinds =
      and-of (word-is-code (bytes "drop") (field line 0)) (and-of (field-is-code 0 most (field line 1)) (and-of (end-is-code ended 2 line) refl)) in
      let all = zero-at (drop_codes ended line) (faultless-is (drop_codes ended line) kinds ∙ eq-eqb (worst (drop_codes ended line)) 0 z) in
      let a = field-zero 0 most (field line 1) (omega arith) (all 1 (omega arith)) in
      let e = end-zero ended 2 line (all 2 (omega arith)) in
      let word = same-eq (field line 0) (bytes "drop") (word-zero (bytes "drop") (field line 0) (all 0 (omega arith))) in
      let one = number-spelt (field line 1) a.spelt in
      let own = places-own (fields line) [] 2 (omega (arith, e.1, there 1 a.spelt)) in
      (e.0, sym own ∙ (λ i. word i ∷ sym one i ∷ []), a.to)

pub entry-says : (n : ℕ) (text : List ℕ) → EntrySays n text (next_entry text)
unfolding next_entry entry_of
entry-says n text =
    let line = before LF text in
    let ended = has_line text in
    by_bool (same (field line 0) (bytes "drop"))
    (λ d.
    by-eq (worst (drop_codes ended line)) 0
    (λ z. let s = drop-spelt line ended z in EntrySays.a_drop _ s.2 s.0 s.1 (rw d (fault-none line (drop_codes ended line) Refused _ z)))
    (λ f. EntrySays.refused_drop _ _ d (worst-plain (drop_codes ended line) (drop-plain-at line ended) f) (drop-column line ended f) (rw d (ap (entry_answer n) (fault-some line (drop_codes ended line) Refused (Drop (value_of (field line 1))) f)))))
    (λ d.
    by-eq (worst (end_codes ended line)) 0
    (λ z. let s = end-spelt line ended z in EntrySays.an_end _ _ s.2 s.3 s.0 s.1 (rw d (fault-none line (end_codes ended line) Refused _ z)))
    (λ f. EntrySays.refused_end _ _ d (worst-plain (end_codes ended line) (end-plain-at line ended) f) (end-column line ended f) (rw d (ap (entry_answer n) (fault-some line (end_codes ended line) Refused (End (value_of (field line 1)) (value_of (field line 2))) f)))))
