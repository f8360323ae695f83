-- What a line of lengths.txt says, and the column that a refused one names.
use Prim.Native.Nat.{ℕ, zero, suc, ◌≤◌, ◌<◌}
use mathlib.Core.Path.{◌≡◌, refl, sym, ap, ◌∙◌}
use mathlib.Core.Logic.{◌≢◌, ◌⊎◌, inl, inr}
use mathlib.Core.Bool.{Bool, true, false, ◌&&◌}
use mathlib.Core.List.{List, [], ◌∷◌}
use native.Mathlib.Omega.{arith}
use lib.Dec.{eqb, leb}
use lib.ListN.{length}
use borrow.Author.Tests.{eq-eqb, le-leb, lt-leb}
use Rattle.laws.proofs.Cases.{by_bool, by-eq, by_le, and_l, and_r, true-false}
use Rattle.laws.specs.Digits.{digits_of}
use Rattle.laws.specs.Lists.{same}
use Rattle.laws.specs.Split.{before}
use Rattle.laws.proofs.Lists.{same-eq}
use Rattle.laws.proofs.Seams.{places-own}
use Rattle.text.specs.Bytes.{bytes}
use Rattle.text.specs.Number.{is_number, value_of, most, number_of}
use Rattle.text.specs.Line.{LF, has_line, fields, field}
use Rattle.text.proofs.Numerals.{number-spelt}
use Rattle.text_fields.specs.Items.{between}
use Rattle.text_fields.specs.Faults.{code_for, field_code, word_code, field_codes, worst, column_of}
use Rattle.text_fields.proofs.FaultLaws.{faultless-is, zero-at, word-zero, end-zero}
use Rattle.text_fields.proofs.UnlessLaws.{fault-none, fault-some}
use Rattle.text_fields.proofs.RangedLaws.{field-code, field-zero}
use Rattle.text_fields.proofs.Alike.{Plain, field_plain}
use Rattle.plan.specs.Value.{at}
use Rattle.engine_read.specs.Lines.{task_code, length_codes, drop_codes, line_said, next_said, said_answer}
use Rattle.engine_read.specs.Said.{LengthLine}
use Rattle.engine_read.specs.Said.{Length, Drop, Refused}
use Rattle.engine_read.proofs.TaskLaws.{task-zero}
use Rattle.engine_read.proofs.LineLaws.{length-kinds, drop-kinds}
use Rattle.promises.specs.Columns.{ColumnSays}
use Rattle.promises.proofs.Codes.Columns.{word-plain, end-plain, worst-plain, column-says, no_field}
use Rattle.promises_engine.specs.LengthsSays.{length_before, drop_before, LengthLineSays, TaskFour}

-- ---- the task field

module _ (tasks : ℕ) (earlier : ℕ → Bool) (s : List ℕ) where
  task-plain : Plain (task_code tasks earlier s)
  unfolding task_code
  task-plain =
      by_bool (eqb (field_code 1 tasks s) 0 && earlier (value_of s))
      (λ e. rw e (inr (inr refl)))
      (λ e. rw e (field_plain 1 tasks s))

  -- of which no earlier line says the same
  task-new : task_code tasks earlier s ≡ 0 → earlier (value_of s) ≡ false
  unfolding task_code
  task-new z =
      by_bool (earlier (value_of s))
      (λ e. let q : ◌≡◌ {A = ℕ} 4 0 = rw (eq-eqb (field_code 1 tasks s) 0 (task-zero tasks earlier s z), e) at z in absurd (omega arith))
      (λ e. e)

  module _ (few : tasks ≤ 64) where
    code_is : field_code 1 tasks s ≡ code_for (is_number s) (between 1 tasks (value_of s))
    code_is = field-code 1 tasks s (omega arith)

    pub four_is : task_code tasks earlier s ≡ 4 → TaskFour tasks earlier s
    unfolding task_code
    four_is f =
        by_bool (is_number s)
        (λ n.
        record {
          spelt = n;
          wrong =
              by_le 1 (value_of s)
              (λ low.
              by_le (value_of s) tasks
              (λ high.
              let b : field_code 1 tasks s ≡ 0 = code_is ∙ rw (n, le-leb 1 (value_of s) low, le-leb (value_of s) tasks high) in
              by_bool (earlier (value_of s))
              (λ e. inr (inr e))
              (λ e. let q : ◌≡◌ {A = ℕ} 0 4 = rw (b, e) at f in absurd (omega arith)))
              (λ high. inr (inl high)))
              (λ low. inl (omega arith));
        })
        (λ n.
        let b : field_code 1 tasks s ≡ 3 = code_is ∙ rw n in
        let q : ◌≡◌ {A = ℕ} 3 4 = rw b at f in absurd (omega arith))

    pub is-four : TaskFour tasks earlier s → task_code tasks earlier s ≡ 4
    unfolding task_code
    is-four t =
        by_bool (between 1 tasks (value_of s))
        (λ b.
        let z : field_code 1 tasks s ≡ 0 = code_is ∙ rw (t.spelt, b) in
        rw (z, said b t.wrong))
        (λ b. let z : field_code 1 tasks s ≡ 4 = code_is ∙ rw (t.spelt, b) in rw z)
      where
        said : between 1 tasks (value_of s) ≡ true → (value_of s < 1) ⊎ ((tasks < value_of s) ⊎ (earlier (value_of s) ≡ true)) → earlier (value_of s) ≡ true
        said b (inl low) = true-false (and_l (leb 1 (value_of s)) (leb (value_of s) tasks) b) (lt-leb 1 (value_of s) low)
        said b (inr (inl high)) = true-false (and_r (leb 1 (value_of s)) (leb (value_of s) tasks) b) (lt-leb (value_of s) tasks high)
        said b (inr (inr e)) = e

-- ---- codes and columns

module _ (tasks : ℕ) (earlier : ℕ → Bool) (ended : Bool) (line : List ℕ) where
  abbrev of_length : List ℕ
  of_length = length_codes tasks earlier ended line

  abbrev of-drop : List ℕ
  of-drop = drop_codes tasks earlier ended line

  length-missing : (n : ℕ) → n < 3 → length (fields line) ≤ n → at of_length n ≡ 3
  unfolding length_codes field_codes task_code word_code same number_of is_number
  length-missing zero h few = rw (no_field line 0 few)
  length-missing (suc zero) h few = rw (no_field line 1 few)
  length-missing (suc (suc zero)) h few = rw (no_field line 2 few)
  length-missing (suc (suc (suc n))) h few = absurd (omega arith)

  length-plain-at : (n : ℕ) → Plain (at of_length n)
  unfolding length_codes field_codes
  length-plain-at zero = word-plain _ _
  length-plain-at (suc zero) = task-plain tasks earlier (field line 1)
  length-plain-at (suc (suc zero)) = field_plain _ _ _
  length-plain-at (suc (suc (suc zero))) = end-plain ended 3 line
  length-plain-at (suc (suc (suc (suc n)))) = inl refl

  length-column : worst of_length ≢ 0 → ColumnSays 3 ended line of_length (worst of_length) (column_of line of_length (worst of_length))
  unfolding length_codes field_codes
  length-column = column-says 3 ended line of_length refl refl length-missing

  drop-missing : (n : ℕ) → n < 2 → length (fields line) ≤ n → at of-drop n ≡ 3
  unfolding drop_codes field_codes task_code word_code same number_of is_number
  drop-missing zero h few = rw (no_field line 0 few)
  drop-missing (suc zero) h few = rw (no_field line 1 few)
  drop-missing (suc (suc n)) h few = absurd (omega arith)

  drop-plain-at : (n : ℕ) → Plain (at of-drop n)
  unfolding drop_codes field_codes
  drop-plain-at zero = word-plain _ _
  drop-plain-at (suc zero) = task-plain tasks earlier (field line 1)
  drop-plain-at (suc (suc zero)) = end-plain ended 2 line
  drop-plain-at (suc (suc (suc n))) = inl refl

  drop-column : worst of-drop ≢ 0 → ColumnSays 2 ended line of-drop (worst of-drop) (column_of line of-drop (worst of-drop))
  unfolding drop_codes field_codes
  drop-column = column-says 2 ended line of-drop refl refl drop-missing

  -- a number's field is there
  there : (n : ℕ) → is_number (field line n) ≡ true → n < length (fields line)
  unfolding is_number
  there n e =
      by_le (length (fields line)) n
      (λ few. let z : false ≡ true = rw (no_field line n few) at e in true-false z refl)
      (λ l. l)

  -- a faultless line is its word and its numbers
  length-spelt :
      tasks ≤ 64 → worst of_length ≡ 0
      → (ended ≡ true)
      × (fields line ≡ bytes "length" ∷ digits_of (value_of (field line 1)) ∷ digits_of (value_of (field line 2)) ∷ [])
      × (1 ≤ value_of (field line 1)) × (value_of (field line 1) ≤ tasks) × (value_of (field line 2) ≤ most)
      × (earlier (value_of (field line 1)) ≡ false)
  unfolding length_codes field_codes
  length-spelt few z =
      let all = zero-at of_length (faultless-is of_length (length-kinds tasks earlier ended line) ∙ eq-eqb (worst of_length) 0 z) in
      let t = all 1 (omega arith) in
      let a = field-zero 1 tasks (field line 1) (omega arith) (task-zero tasks earlier (field line 1) t) in
      let b = field-zero 0 most (field line 2) (omega arith) (all 2 (omega arith)) in
      let e = end-zero ended 3 line (all 3 (omega arith)) in
      let word = same-eq (field line 0) (bytes "length") (word-zero (bytes "length") (field line 0) (all 0 (omega arith))) in
      let one = number-spelt (field line 1) a.spelt in
      let two = number-spelt (field line 2) b.spelt in
      let own = places-own (fields line) [] 3 (omega (arith, e.1, there 2 b.spelt)) in
      (e.0, sym own ∙ (λ i. word i ∷ sym one i ∷ sym two i ∷ []), a.from, a.to, b.to, task-new tasks earlier (field line 1) t)

  drop-spelt :
      tasks ≤ 64 → worst of-drop ≡ 0
      → (ended ≡ true) × (fields line ≡ bytes "drop" ∷ digits_of (value_of (field line 1)) ∷ []) × (1 ≤ value_of (field line 1))
      × (value_of (field line 1) ≤ tasks) × (earlier (value_of (field line 1)) ≡ false)
  unfolding drop_codes field_codes
  drop-spelt few z =
      let all = zero-at of-drop (faultless-is of-drop (drop-kinds tasks earlier ended line) ∙ eq-eqb (worst of-drop) 0 z) in
      let t = all 1 (omega arith) in
      let a = field-zero 1 tasks (field line 1) (omega arith) (task-zero tasks earlier (field line 1) t) in
      let e = end-zero ended 2 line (all 2 (omega arith)) in
      let word = same-eq (field line 0) (bytes "drop") (word-zero (bytes "drop") (field line 0) (all 0 (omega arith))) in
      let one = number-spelt (field line 1) a.spelt in
      let own = places-own (fields line) [] 2 (omega (arith, e.1, there 1 a.spelt)) in
      (e.0, sym own ∙ (λ i. word i ∷ sym one i ∷ []), a.from, a.to, task-new tasks earlier (field line 1) t)

pub line-says : (tasks n : ℕ) → tasks ≤ 64 → (earlier : List LengthLine) (text : List ℕ) → LengthLineSays tasks n earlier text (next_said tasks earlier text)
unfolding line_said
line-says tasks n few earlier text =
    let line = before LF text in
    let ended = has_line text in
    let lengths = length_before earlier in
    let drops = drop_before earlier in
    by_bool (same (field line 0) (bytes "drop"))
    (λ d.
    by-eq (worst (drop_codes tasks drops ended line)) 0
    (λ z.
    let s = drop-spelt tasks drops ended line few z in
    LengthLineSays.a_drop _ s.2 s.3 s.4 s.0 s.1 (rw d (fault-none line (drop_codes tasks drops ended line) Refused _ z)))
    (λ f.
    LengthLineSays.refused_drop _ _ d (worst-plain (drop_codes tasks drops ended line) (drop-plain-at tasks drops ended line) f)
    (drop-column tasks drops ended line f) (rw d (ap (said_answer n) (fault-some line (drop_codes tasks drops ended line) Refused (Drop (value_of (field line 1))) f)))))
    (λ d.
    by-eq (worst (length_codes tasks lengths ended line)) 0
    (λ z.
    let s = length-spelt tasks lengths ended line few z in
    LengthLineSays.a_length _ _ s.2 s.3 s.4 s.5 s.0 s.1 (rw d (fault-none line (length_codes tasks lengths ended line) Refused _ z)))
    (λ f.
    LengthLineSays.refused_length _ _ d (worst-plain (length_codes tasks lengths ended line) (length-plain-at tasks lengths ended line) f)
    (length-column tasks lengths ended line f) (rw d (ap (said_answer n) (fault-some line (length_codes tasks lengths ended line) Refused (Length (value_of (field line 1)) (value_of (field line 2))) f)))))
