-- What the whole text asks, by the tests that lead to it.
use Prim.Native.Nat.{ℕ, suc, ◌≤◌, ◌<◌, min}
use mathlib.Core.Path.{◌≡◌, sym, ap, ◌∙◌}
use mathlib.Core.List.{List, []}
use native.Mathlib.Omega.{arith}
use lib.Dec.{eqb}
use lib.ListN.{length, length-drop, length-take}
use borrow.Author.Tests.{lt-ltb, le-ltb}
use Rattle.laws.proofs.Cases.{by_bool}
use Rattle.laws.specs.Split.{index_of, after, before}
use Rattle.laws.specs.Lists.{same}
use Rattle.text.specs.Bytes.{bytes}
use Rattle.text.specs.Line.{LF, has_line, field}
use Rattle.text_fields.specs.Faults.{fault_of}
use Rattle.text_fields.proofs.FaultLaws.{column-most}
use Rattle.plan.specs.Answer.{refuse}
use Rattle.plan.specs.declared.Answer.{Answer}
use Rattle.book.specs.declared.Rule.TheVariants.{EarlyStart, Clash}
use Rattle.log_read.specs.Rules.{rule_codes, choice_in, choice_of}
use Rattle.log_read.specs.Said.{Choice}
use Rattle.log_read.specs.Said.Choice.{Unsaid, Chosen, Malformed}
use Rattle.engine_read.specs.Whole.{told_in, asked_not, asked_by, chosen_asked, asked_of}
use Rattle.engine_read.specs.Private.Noted.{LinesFit}
use Rattle.engine_read.specs.declared.EngineInput.{EngineInput}

-- a first line that says the rule names a column that an answer can say
abbrev ShortChoice : Choice → Type 0
ShortChoice Unsaid = 0 ≤ 0
ShortChoice Chosen = 0 ≤ 0
ShortChoice (Malformed column) = column < 4294967296

choice-short : (s : List ℕ) → length s ≤ 32768 → ShortChoice (choice_of s)
unfolding choice_of choice_in
choice-short s h =
    let line = before LF s in
    let fault = fault_of line (rule_codes (has_line s) line) in
    by_bool (same (field line 0) (bytes "rule"))
    (λ e.
    rw e
    (by_bool (eqb fault.code 0)
    (λ q. rw q (omega arith))
    (λ q. rw q (omega (arith, column-most line (rule_codes (has_line s) line), length-take (index_of LF s) s)))))
    (λ e. rw e (omega arith))

pub few-is : (tasks : ℕ) {n : ℕ} → n ≡ min tasks 64 → n ≤ 64
few-is tasks e = omega (arith, e)

pub fits : (tasks n : ℕ) (text : List ℕ) {k : ℕ} {rest : List ℕ} → n ≡ min tasks 64 → k ≤ 2 → length text ≤ 32768 → length rest ≤ length text → LinesFit n k rest
fits tasks n text e h s l = record { few = omega (arith, e); begun = h; short = omega arith }

pub rest-less : (s : List ℕ) {rest : List ℕ} → rest ≡ after LF s → length rest ≤ length s
rest-less s u = rw u (omega (arith, length-drop (suc (index_of LF s)) s))

module _ (tasks : ℕ) (begin finish text : List ℕ) where
  pub asked-long : 32768 < length text → {a : Answer} {r : EngineInput} → a ≡ refuse 1 0 0 → r ≡ asked_not a → r ≡ asked_of tasks begin finish text
  unfolding asked_of
  asked-long h p e = e ∙ ap asked_not p ∙ rw (lt-ltb 32768 (length text) h)

  module _ (short : length text ≤ 32768) {n : ℕ} (m : n ≡ min tasks 64) {choice : Choice} (k : choice ≡ choice_of text) where
    asked_is : {this : Choice} → choice ≡ this → chosen_asked this n begin finish text ≡ asked_of tasks begin finish text
    unfolding asked_of
    asked_is {this} c =
        ap (λ (x : ℕ). chosen_asked this x begin finish text) m
        ∙ rw (le-ltb 32768 (length text) short) (ap (λ (x : Choice). chosen_asked x (min tasks 64) begin finish text) (sym c ∙ k))

    pub asked-unsaid :
        choice ≡ Unsaid → {r : EngineInput} → r ≡ asked_by EarlyStart n begin finish (told_in n 1 [] text)
        → r ≡ asked_of tasks begin finish text
    unfolding chosen_asked
    asked-unsaid t e = e ∙ asked_is t

    pub asked-chosen :
        choice ≡ Chosen → {rest : List ℕ} → rest ≡ after LF text → {r : EngineInput}
        → r ≡ asked_by Clash n begin finish (told_in n 2 [] rest) → r ≡ asked_of tasks begin finish text
    unfolding chosen_asked
    asked-chosen t u e = e ∙ ap (λ (s : List ℕ). asked_by Clash n begin finish (told_in n 2 [] s)) u ∙ asked_is t

    pub malformed-short : {column : ℕ} → choice ≡ Malformed column → column < 4294967296
    malformed-short {column} c = let r : ShortChoice (Malformed column) = rw (← k, c) at (choice-short text short) in r

    pub asked-malformed :
        {column : ℕ} → choice ≡ Malformed column → {a : Answer} {r : EngineInput} → a ≡ refuse 3 1 column → r ≡ asked_not a → r ≡ asked_of tasks begin finish text
    unfolding chosen_asked
    asked-malformed c p e = e ∙ ap asked_not p ∙ asked_is c
