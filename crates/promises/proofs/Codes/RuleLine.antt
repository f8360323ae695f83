-- What the first line of ends.txt chooses, and the column that a malformed one is refused at.
use Prim.Native.Nat.{ℕ, zero, suc, ◌≤◌, ◌<◌}
use mathlib.Core.Path.{◌≡◌, refl, sym, ap, ◌∙◌}
use mathlib.Core.Bool.{Bool, true, false, ◌&&◌}
use mathlib.Core.List.{List, [], ◌∷◌}
use native.Mathlib.Omega.{arith}
use lib.Dec.{leb}
use lib.ListN.{length, get_or}
use borrow.Author.Tests.{leb-true}
use Rattle.laws.proofs.Cases.{by_bool, and_l, and_r, true-false}
use Rattle.laws.proofs.Lists.{same-eq}
use Rattle.laws.proofs.Split.{join-split}
use Rattle.laws.specs.Lists.{same, any_of}
use Rattle.laws.specs.Split.{before, join_on}
use Rattle.text.specs.Bytes.{bytes}
use Rattle.text.specs.Line.{TAB, LF, has_line, fields, field}
use Rattle.text_fields.specs.Faults.{word_code, end_code, field_codes, worst, column_of, fault_of}
use Rattle.plan.specs.Value.{at}
use Rattle.log_read.specs.Rules.{rule_codes, choice_in, choice_of}
use Rattle.promises.specs.Columns.{ColumnSays}
use Rattle.promises.specs.Says.{ChoiceSays}
use Rattle.promises.proofs.Codes.Columns.{column-says, no_field}

module _ (line : List ℕ) (ended : Bool) (word : same (field line 0) (bytes "rule") ≡ true) where
  abbrev name : Bool
  name = same (field line 1) (bytes "clash")

  abbrev whole : Bool
  whole = ended && leb (length (fields line)) 2

  faultless : name ≡ true → whole ≡ true → worst (rule_codes ended line) ≡ 0
  unfolding worst rule_codes field_codes word_code end_code any_of
  faultless n w = rw (word, n, w)

  faulty : (name && whole) ≡ false → worst (rule_codes ended line) ≡ 3
  unfolding worst rule_codes field_codes word_code end_code any_of
  faulty f =
      by_bool name
      (λ n. let w : whole ≡ false = rw n at f in rw (word, n, w))
      (λ n. rw (word, n))

  rule-missing : (n : ℕ) → n < 2 → length (fields line) ≤ n → at (rule_codes ended line) n ≡ 3
  unfolding rule_codes field_codes word_code same
  rule-missing zero h few = rw (no_field line 0 few)
  rule-missing (suc zero) h few = rw (no_field line 1 few)
  rule-missing (suc (suc n)) h few = absurd (omega arith)

  rule-column : worst (rule_codes ended line) ≡ 3 → ColumnSays 2 ended line (rule_codes ended line) 3 (column_of line (rule_codes ended line) 3)
  unfolding rule_codes field_codes
  rule-column e =
      rw e at (column-says 2 ended line (rule_codes ended line) refl refl rule-missing (λ z. omega (arith, e, z)))

  -- two fields and no more
  two : (l : List (List ℕ)) (b : List ℕ) → length l ≤ 2 → get_or l 1 [] ≡ b → (b ≡ [] → ⊥) → l ≡ get_or l 0 [] ∷ b ∷ []
  two [] b few e some = absurd (some (sym e))
  two (x ∷ []) b few e some = absurd (some (sym e))
  two (x ∷ y ∷ []) b few e some = λ i. x ∷ e i ∷ []
  two (x ∷ y ∷ z ∷ l) b few e some = absurd (omega arith)

  line-is : name ≡ true → whole ≡ true → line ≡ bytes "rule\tclash"
  unfolding join_on same
  line-is n w =
      let few = leb-true (length (fields line)) 2 (and_r ended _ w) in
      let first = same-eq (field line 0) (bytes "rule") word in
      let second = same-eq (field line 1) (bytes "clash") n in
      let all = two (fields line) (bytes "clash") few second (λ e. true-false refl (ap (λ (s : List ℕ). same s (bytes "clash")) e)) in
      sym (join-split TAB line) ∙ ap (join_on TAB) (all ∙ (λ i. first i ∷ bytes "clash" ∷ []))

pub choice-says : (text : List ℕ) → ChoiceSays text (choice_of text)
unfolding choice_of choice_in fault_of
choice-says text =
    let line = before LF text in
    let ended = has_line text in
    by_bool (same (field line 0) (bytes "rule"))
    (λ word.
    by_bool (name line ended word && whole line ended word)
    (λ fine.
    let n = and_l (name line ended word) (whole line ended word) fine in
    let w = and_r (name line ended word) (whole line ended word) fine in
    ChoiceSays.chosen (line-is line ended word n w) (and_l ended _ w) (rw (word, faultless line ended word n w)))
    (λ bad.
    let e = faulty line ended word bad in
    ChoiceSays.malformed _ word (rule-column line ended word e) (rw (word, e))))
    (λ other. ChoiceSays.unsaid other (rw other))
