-- A line typed at the desk is refused by the number of a field's fault, as one of ends.txt is.
use Prim.Native.Nat.{ℕ}
use mathlib.Core.Path.{◌≡◌, refl, subst}
use mathlib.Core.Bool.{Bool}
use mathlib.Core.List.{List, [], ◌∷◌}
use lib.Dec.{eqb, ltb}
use lib.ListN.{length}
use borrow.Author.Tests.{eqb-false}
use Rattle.laws.proofs.Cases.{by_bool}
use Rattle.laws.specs.Lists.{same}
use Rattle.text.specs.Bytes.{bytes}
use Rattle.text.specs.Line.{field}
use Rattle.text.specs.Number.{value_of, most}
use Rattle.text_fields.specs.Faults.{field_code, line_codes, worst, fault_of}
use Rattle.text_fields.specs.declared.FieldFault.TheVariants.{Misspelt}
use Rattle.log_read.specs.Entries.{entry_of}
use Rattle.log_read.specs.Rules.{choice_in}
use Rattle.log_read.specs.Said.{Choice}
use Rattle.log_read.specs.Said.Choice.{Unsaid, Chosen, Malformed}
use Rattle.log_read.specs.Said.Entry.{Refused}
use Rattle.desk_read.specs.Asked.{DeskLine}
use Rattle.desk_read.specs.Asked.DeskLine.{Step, Early, Exact, Now, Drive, Why}
use Rattle.desk_read.specs.Lines.{question_or, refused_by, choice_asked, word_asked, asked_of}
use Rattle.text_fields.proofs.Codes.{IsKind, worst-kind}
use Rattle.log_read.proofs.KindLaws.{entry-kind}

abbrev Kinds : DeskLine → Type 0
Kinds line = (code column : ℕ) → line ≡ Step (Refused code column) → IsKind code

refused-number : {number column code other : ℕ} → IsKind number → refused_by number column ≡ Step (Refused code other) → IsKind code
refused-number {number} {column} {code} {other} k e =
    let i : number ≡ code = cc in subst IsKind i k

question-kind :
    (ended : Bool) (line word : List ℕ) (codes : List (List ℕ → ℕ)) (asks otherwise : DeskLine)
    → Kinds asks → Kinds otherwise → Kinds (question_or ended line word codes asks otherwise)
unfolding fault_of
question-kind ended line word codes asks otherwise k m code column e =
    by_bool (same (field line 0) word)
    (λ s.
    by_bool (eqb (worst (line_codes word codes ended line)) 0)
    (λ t. k code column (rw (s, t) at e))
    (λ t. refused-number (worst-kind (line_codes word codes ended line) (eqb-false _ 0 t)) (rw (s, t) at e)))
    (λ s. m code column (rw s at e))

word-kind : (ended : Bool) (line : List ℕ) → Kinds (word_asked ended line)
unfolding word_asked
word-kind ended line =
    question-kind ended line (bytes "early") [] Early _ (λ c d x. absurd cc)
    (question-kind ended line (bytes "exact") [] Exact _ (λ c d x. absurd cc)
    (question-kind ended line (bytes "now") [] Now _ (λ c d x. absurd cc)
    (question-kind ended line (bytes "drive") (field_code 0 most ∷ []) (Drive (value_of (field line 1))) _ (λ c d x. absurd cc)
    (question-kind ended line (bytes "why") (field_code 0 most ∷ []) (Why (value_of (field line 1))) (Step (entry_of ended line)) (λ c d x. absurd cc)
    (λ code column e. let q : entry_of ended line ≡ Refused code column = cc in entry-kind ended line q)))))

three : IsKind 3
three = record { kind = Misspelt; is = refl }

choice-kind : (choice : Choice) (otherwise : DeskLine) → Kinds otherwise → Kinds (choice_asked choice otherwise)
choice-kind Unsaid otherwise k = k
choice-kind Chosen otherwise k = λ code column e. absurd cc
choice-kind (Malformed column) otherwise k = λ c d e. refused-number three e

pub asked-kind : (free ended : Bool) (line : List ℕ) {code column : ℕ} → asked_of free ended line ≡ Step (Refused code column) → IsKind code
unfolding asked_of
asked-kind free ended line e =
    by_bool (ltb 64 (length line))
    (λ l. refused-number three (rw l at e))
    (λ l.
    by_bool free
    (λ f. choice-kind (choice_in ended line) (word_asked ended line) (word-kind ended line) _ _ (rw (l, f) at e))
    (λ f. word-kind ended line _ _ (rw (l, f) at e)))
