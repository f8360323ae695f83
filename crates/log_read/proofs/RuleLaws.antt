-- What the first line of ends.txt chooses, by the tests that lead to it.
use Prim.Native.Nat.{ℕ}
use mathlib.Core.Path.{◌≡◌, refl, sym, ap, ◌∙◌}
use mathlib.Core.Bool.{Bool, true, false}
use mathlib.Core.List.{List, [], ◌∷◌}
use lib.Dec.{ltb}
use lib.ListN.{length, take}
use Rattle.std.specs.Prelude.{Option, Err}
use Rattle.laws.specs.Lists.{same}
use Rattle.laws.specs.Split.{index_of}
use Rattle.text.specs.Bytes.{bytes}
use Rattle.text.specs.Line.{LF, field}
use Rattle.text_fields.specs.Faults.{word_code, end_code, field_codes, fault_of}
use Rattle.text_fields.specs.Said.{code_in, fault_in}
use Rattle.text_fields.proofs.Codes.{codes_in}
use Rattle.text_fields.specs.declared.FieldFault.{FieldFault}
use Rattle.text_fields.specs.declared.Fault.{Fault}
use Rattle.text_fields.proofs.UnlessLaws.{refuses, says}
use Rattle.log_read.specs.Rules.{rule_codes, choice_in, choice_of}
use Rattle.log_read.specs.Said.Choice.{Unsaid, Chosen, Malformed}

-- whether the first field is `rule`
module _ (ended : Bool) (line : List ℕ) {front : List ℕ} (f : front ≡ field line 0) {rule : Bool} (s : rule ≡ same front (bytes "rule")) where
  rule-is : same (field line 0) (bytes "rule") ≡ rule
  rule-is = sym (rw f at s)

  pub choice-unsaid : rule ≡ false → Unsaid ≡ choice_in ended line
  unfolding choice_in
  choice-unsaid n = rw (rule-is ∙ n)

  -- it is, with the faults of the line
  module _ (n : rule ≡ true) (word name end : Option FieldFault) {first second : List ℕ} (g : first ≡ field line 0) (h : second ≡ field line 1)
      (w : code_in word ≡ word_code (bytes "rule") first) (v : code_in name ≡ word_code (bytes "clash") second) (e : code_in end ≡ end_code ended 2 line) where
    codes-are : codes_in (word ∷ name ∷ end ∷ []) ≡ rule_codes ended line
    unfolding rule_codes field_codes
    codes-are =
        let w' : code_in word ≡ word_code (bytes "rule") (field line 0) = rw g at w in
        let v' : code_in name ≡ word_code (bytes "clash") (field line 1) = rw h at v in
        λ i. w' i ∷ v' i ∷ e i ∷ []

    pub choice-malformed : (fault : Fault) → fault_in {A = Unit {0}} (Err fault) ≡ fault_of line (codes_in (word ∷ name ∷ end ∷ [])) → Malformed fault.column ≡ choice_in ended line
    unfolding choice_in
    choice-malformed fault r = rw (rule-is ∙ n) (refuses line (rule_codes ended line) (λ code column. Malformed column) _ fault.kind (r ∙ ap (fault_of line) codes-are))

    pub choice-chosen : record { code = 0; column = 0 } ≡ fault_of line (codes_in (word ∷ name ∷ end ∷ [])) → Chosen ≡ choice_in ended line
    unfolding choice_in
    choice-chosen r = rw (rule-is ∙ n) (says line (rule_codes ended line) (λ code column. Malformed column) _ (r ∙ ap (fault_of line) codes-are) refl)

pub choice-is : (s : List ℕ) {r : ℕ} → r ≡ index_of LF s → choice_in (ltb r (length s)) (take r s) ≡ choice_of s
unfolding choice_of
choice-is s p = rw p
