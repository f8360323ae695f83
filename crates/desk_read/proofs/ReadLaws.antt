-- What a typed line asks, by the tests that lead to it.
use Prim.Native.Nat.{ℕ, ◌≤◌, ◌<◌}
use mathlib.Core.Path.{◌≡◌, refl, sym, ap, ◌∙◌}
use mathlib.Core.Logic.{◌≢◌}
use mathlib.Core.Bool.{Bool, true, false}
use mathlib.Core.List.{List, [], ◌∷◌}
use native.Mathlib.Omega.{arith}
use lib.Dec.{eqb}
use lib.ListN.{length}
use borrow.Author.Tests.{eq-eqb, eqb-false, lt-ltb, le-ltb}
use Rattle.laws.proofs.Cases.{by_bool, by_le}
use Rattle.laws.specs.Lists.{all_of, same}
use Rattle.text.specs.Bytes.{bytes}
use Rattle.text.specs.Number.{value_of, most}
use Rattle.text.specs.Line.{field}
use Rattle.std.specs.Prelude.{Option, Result, Ok, IsOk}
use Rattle.std.specs.Result.{result_err}
use Rattle.text_fields.specs.Faults.{Fault, word_code, field_code, end_code, field_codes, line_codes, fault_of, unless_fault, ranged_read}
use Rattle.text_fields.specs.Said.{fault_number, code_in, ranged_in}
use Rattle.text_fields.proofs.Codes.{codes_in}
use Rattle.text_fields.specs.declared.FieldFault.{FieldFault}
use Rattle.text_fields.proofs.RangedLaws.{err-code, ok-there, ok-value}
use Rattle.text_fields.proofs.FaultLaws.{zero-at, column-most, number-some}
use Rattle.text_fields.proofs.UnlessLaws.{right-codes}
use Rattle.log_read.specs.Entries.{end_codes, drop_codes, entry_of}
use Rattle.log_read.specs.Rules.{rule_codes, choice_in}
use Rattle.log_read.specs.Said.{Choice}
use Rattle.log_read.specs.Said.{Entry}
use Rattle.log_read.specs.Said.Entry.{End, Drop, Refused}
use Rattle.desk_read.specs.Lines.{refused_by, choice_asked, word_asked, asked_of}
use Rattle.desk_read.specs.Asked.{DeskLine}
use Rattle.desk_read.specs.Asked.DeskLine.{Step, Rule, Early, Exact, Now, Drive, Why}

-- ---- the fault

-- a word and a number
abbrev number : List (List ℕ → ℕ)
number = field_code 0 most ∷ []

module _ (line word : List ℕ) (ended : Bool) {first : List ℕ} (f : first ≡ field line 0) (w : Option FieldFault) (c : code_in w ≡ word_code word first) where
  word-is : code_in w ≡ word_code word (field line 0)
  word-is = rw f at c

  pub alone-is :
      (e : Option FieldFault) → code_in e ≡ end_code ended 1 line
      → {r : Fault} → r ≡ fault_of line (codes_in (w ∷ e ∷ [])) → r ≡ fault_of line (line_codes word [] ended line)
  unfolding field_codes
  alone-is e l r = let v = word-is in r ∙ (λ i. fault_of line (v i ∷ l i ∷ []))

  module _ {second : List ℕ} (g : second ≡ field line 1) (x : Result ℕ FieldFault) (n : ranged_in x ≡ ranged_read 0 most second)
      (y : Option FieldFault) (m : y ≡ result_err x) (e : Option FieldFault) (l : code_in e ≡ end_code ended 2 line) where
    number-is : codes_in (w ∷ y ∷ e ∷ []) ≡ line_codes word number ended line
    unfolding field_codes
    number-is =
        let v = word-is in
        let u : code_in y ≡ field_code 0 most (field line 1) = rw m (err-code 0 most (field line 1) x (rw g at n)) in
        λ i. v i ∷ u i ∷ l i ∷ []

    pub one-is : {r : Fault} → r ≡ fault_of line (codes_in (w ∷ y ∷ e ∷ [])) → r ≡ fault_of line (line_codes word number ended line)
    one-is r = r ∙ ap (fault_of line) number-is

    -- where it has no fault, the number is there
    pub number-there : record { code = 0; column = 0 } ≡ fault_of line (codes_in (w ∷ y ∷ e ∷ [])) → IsOk x
    unfolding field_codes
    number-there r =
        let all : all_of (eqb 0) (line_codes word number ended line) ≡ true = ap (all_of (eqb 0)) (sym number-is) ∙ right-codes line (w ∷ y ∷ e ∷ []) r in
        ok-there 0 most (field line 1) x (rw g at n) (zero-at (line_codes word number ended line) all 1 (omega arith))

pub number_is :
    (line : List ℕ) {second : List ℕ} → second ≡ field line 1 → (x : Result ℕ FieldFault) → ranged_in x ≡ ranged_read 0 most second
    → {n : ℕ} → x ≡ Ok n → n ≡ value_of (field line 1)
number_is line g x n e = ok-value 0 most (field line 1) x (rw g at n) e

-- the refusal of a faulty line
pub unless-no : (kind : FieldFault) (column : ℕ) (asked : DeskLine) → refused_by (fault_number kind) column ≡ unless_fault (record { code = fault_number kind; column = column }) refused_by asked
unless-no kind column asked = rw (number-some kind)

-- a faultless line asks what it says
module _ (fault : Fault) (asked : DeskLine) where
  pub unless-yes : fault.code ≡ 0 → asked ≡ unless_fault fault refused_by asked
  unless-yes z = rw (eq-eqb fault.code 0 z)

-- ---- the word

pub tested : (line word : List ℕ) {first : List ℕ} {s b : Bool} → first ≡ field line 0 → s ≡ same first word → s ≡ b → same (field line 0) word ≡ b
tested line word f e t = sym (rw f at e) ∙ t

module _ (ended : Bool) (line : List ℕ) {r : DeskLine} where
  pub early-word :
      same (field line 0) (bytes "early") ≡ true → {fault : Fault} → fault ≡ fault_of line (line_codes (bytes "early") [] ended line) → r ≡ unless_fault fault refused_by Early → r ≡ word_asked ended line
  unfolding word_asked
  early-word t f e = rw t (e ∙ ap (λ (x : Fault). unless_fault x refused_by Early) f)

  module _ (a : same (field line 0) (bytes "early") ≡ false) where
    pub exact_word :
        same (field line 0) (bytes "exact") ≡ true → {fault : Fault} → fault ≡ fault_of line (line_codes (bytes "exact") [] ended line) → r ≡ unless_fault fault refused_by Exact → r ≡ word_asked ended line
    unfolding word_asked
    exact_word t f e = rw (a, t) (e ∙ ap (λ (x : Fault). unless_fault x refused_by Exact) f)

    module _ (b : same (field line 0) (bytes "exact") ≡ false) where
      pub now-word :
          same (field line 0) (bytes "now") ≡ true → {fault : Fault} → fault ≡ fault_of line (line_codes (bytes "now") [] ended line) → r ≡ unless_fault fault refused_by Now → r ≡ word_asked ended line
      unfolding word_asked
      now-word t f e = rw (a, b, t) (e ∙ ap (λ (x : Fault). unless_fault x refused_by Now) f)

      module _ (d : same (field line 0) (bytes "now") ≡ false) where
        pub drive-word :
            same (field line 0) (bytes "drive") ≡ true → {fault : Fault} → fault ≡ fault_of line (line_codes (bytes "drive") number ended line)
            → r ≡ unless_fault fault refused_by (Drive (value_of (field line 1))) → r ≡ word_asked ended line
        unfolding word_asked
        drive-word t f e = rw (a, b, d, t) (e ∙ ap (λ (x : Fault). unless_fault x refused_by (Drive (value_of (field line 1)))) f)

        module _ (g : same (field line 0) (bytes "drive") ≡ false) where
          pub why-word :
              same (field line 0) (bytes "why") ≡ true → {fault : Fault} → fault ≡ fault_of line (line_codes (bytes "why") number ended line)
              → r ≡ unless_fault fault refused_by (Why (value_of (field line 1))) → r ≡ word_asked ended line
          unfolding word_asked
          why-word t f e = rw (a, b, d, g, t) (e ∙ ap (λ (x : Fault). unless_fault x refused_by (Why (value_of (field line 1)))) f)

          pub other_word : same (field line 0) (bytes "why") ≡ false → {entry : Entry} → entry ≡ entry_of ended line → r ≡ Step entry → r ≡ word_asked ended line
          unfolding word_asked
          other_word t q e = rw (a, b, d, g, t) (e ∙ ap Step q)

-- ---- the whole line

module _ (free ended : Bool) (line : List ℕ) where
  pub asked-long : 64 < length line → {r : DeskLine} → r ≡ refused_by 3 65 → r ≡ asked_of free ended line
  unfolding asked_of
  asked-long h e = rw (lt-ltb 64 (length line) h) e

  module _ (short : length line ≤ 64) {r : DeskLine} where
    pub asked-bound : free ≡ false → r ≡ word_asked ended line → r ≡ asked_of free ended line
    unfolding asked_of
    asked-bound n e = rw (le-ltb 64 (length line) short, n) e

    pub asked-free :
        free ≡ true → {choice : Choice} {otherwise : DeskLine} → choice ≡ choice_in ended line → otherwise ≡ word_asked ended line
        → r ≡ choice_asked choice otherwise → r ≡ asked_of free ended line
    unfolding asked_of
    asked-free n k o e = rw (le-ltb 64 (length line) short, n) (e ∙ (λ i. choice_asked (k i) (o i)))

-- ---- a refused line names a column that an answer can say

-- of a line of 64 bytes the column is at most just past it
abbrev pub NearEntry : Entry → Type 0
NearEntry (End task tick) = 0 ≤ tick
NearEntry (Drop task) = 0 ≤ task
NearEntry (Refused code column) = (code ≢ 0) × (column ≤ 65)

abbrev pub Near : DeskLine → Type 0
Near (Step entry) = NearEntry entry
Near Rule = 0 ≤ 0
Near Early = 0 ≤ 0
Near Exact = 0 ≤ 0
Near Now = 0 ≤ 0
Near (Drive n) = 0 ≤ n
Near (Why task) = 0 ≤ task

module _ (ended : Bool) (line : List ℕ) (short : length line ≤ 64) where
  column-near : (codes : List ℕ) → (fault_of line codes).column ≤ 65
  column-near codes = omega (arith, column-most line codes)

  fault-near : (codes : List ℕ) (asked : DeskLine) → Near asked → Near (unless_fault (fault_of line codes) refused_by asked)
  fault-near codes asked h =
      by_bool (eqb (fault_of line codes).code 0) (λ e. rw e h) (λ e. rw e (eqb-false (fault_of line codes).code 0 e, column-near codes))

  said-near : (codes : List ℕ) (entry : Entry) → NearEntry entry → NearEntry (unless_fault (fault_of line codes) Refused entry)
  said-near codes entry h =
      by_bool (eqb (fault_of line codes).code 0) (λ e. rw e h) (λ e. rw e (eqb-false (fault_of line codes).code 0 e, column-near codes))

  entry-near : NearEntry (entry_of ended line)
  unfolding entry_of
  entry-near =
      by_bool (same (field line 0) (bytes "drop"))
      (λ e. rw e (said-near (drop_codes ended line) (Drop (value_of (field line 1))) (omega arith)))
      (λ e. rw e (said-near (end_codes ended line) (End (value_of (field line 1)) (value_of (field line 2))) (omega arith)))

  word-near : Near (word_asked ended line)
  unfolding word_asked
  word-near =
      by_bool (same (field line 0) (bytes "early")) (λ a. rw a (fault-near (line_codes (bytes "early") [] ended line) Early (omega arith)))
      (λ a.
      by_bool (same (field line 0) (bytes "exact")) (λ b. rw (a, b) (fault-near (line_codes (bytes "exact") [] ended line) Exact (omega arith)))
      (λ b.
      by_bool (same (field line 0) (bytes "now")) (λ d. rw (a, b, d) (fault-near (line_codes (bytes "now") [] ended line) Now (omega arith)))
      (λ d.
      by_bool (same (field line 0) (bytes "drive"))
      (λ g. rw (a, b, d, g) (fault-near (line_codes (bytes "drive") number ended line) (Drive (value_of (field line 1))) (omega arith)))
      (λ g.
      by_bool (same (field line 0) (bytes "why"))
      (λ h. rw (a, b, d, g, h) (fault-near (line_codes (bytes "why") number ended line) (Why (value_of (field line 1))) (omega arith)))
      (λ h. rw (a, b, d, g, h) entry-near)))))

  choice-near : Near (choice_asked (choice_in ended line) (word_asked ended line))
  unfolding choice_in
  choice-near =
      by_bool (same (field line 0) (bytes "rule"))
      (λ e.
      rw e
      (by_bool (eqb (fault_of line (rule_codes ended line)).code 0)
      (λ q. rw q (omega arith))
      (λ q. rw q ((λ z. omega (arith, z)), column-near (rule_codes ended line)))))
      (λ e. rw e word-near)

pub asked-near : (free ended : Bool) (line : List ℕ) → Near (asked_of free ended line)
unfolding asked_of
asked-near free ended line =
    by_le (length line) 64
    (λ h. rw (le-ltb 64 (length line) h) (by_bool free (λ e. rw e (choice-near ended line h)) (λ e. rw e (word-near ended line h))))
    (λ h. rw (lt-ltb 64 (length line) h) ((λ z. omega (arith, z)), omega arith))

pub step-near : (free ended : Bool) (line : List ℕ) {asked : DeskLine} {entry : Entry} → asked ≡ asked_of free ended line → asked ≡ Step entry → NearEntry entry
step-near free ended line {entry = entry} e q = let r : Near (Step entry) = rw (← e, q) at (asked-near free ended line) in r
