-- What a line is where the desk sees an end, a drop or the rule in it.
use Prim.Native.Nat.{ℕ, ◌≤◌}
use mathlib.Core.Path.{◌≡◌, refl, sym, ap, ◌∙◌}
use mathlib.Core.Bool.{Bool, true}
use mathlib.Core.List.{List, [], ◌∷◌}
use native.Mathlib.Omega.{arith}
use lib.Dec.{eqb}
use lib.ListN.{length}
use borrow.Author.Tests.{lt-ltb, le-ltb}
use Rattle.laws.proofs.Cases.{by_bool, by_le}
use Rattle.laws.specs.Lists.{same}
use Rattle.text.specs.Bytes.{bytes}
use Rattle.text.specs.Number.{value_of, most}
use Rattle.text.specs.Line.{field}
use Rattle.text_fields.specs.Faults.{Fault, field_code, line_codes, fault_of, unless_fault}
use Rattle.log_read.specs.Entries.{entry_of}
use Rattle.log_read.specs.Rules.{choice_in}
use Rattle.log_read.specs.Said.{Choice}
use Rattle.log_read.specs.Said.Choice.{Unsaid, Chosen, Malformed}
use Rattle.log_read.specs.Said.{Entry}
use Rattle.log_read.specs.Said.{Entry as said}
use Rattle.desk_read.specs.Lines.{refused_by, choice_asked, word_asked, asked_of}
use Rattle.desk_read.specs.Asked.{DeskLine}
use Rattle.desk_read.specs.Asked.DeskLine.{Step, Rule, Early, Exact, Now, Drive, Why}

abbrev pub kind : DeskLine → ℕ
kind (Step (said.End task tick)) = 0
kind (Step (said.Drop task)) = 1
kind (Step (said.Refused code column)) = 3
kind Rule = 2
kind Early = 3
kind Exact = 3
kind Now = 3
kind (Drive n) = 3
kind (Why task) = 3

-- what a line is seen as: an entry, the rule, or neither
data Sees (free ended : Bool) (line : List ℕ) (asked : DeskLine) : Type 0 where
  entry : asked ≡ Step (entry_of ended line) → Sees free ended line asked
  rule : free ≡ true → choice_in ended line ≡ Chosen → asked ≡ Rule → Sees free ended line asked
  other : kind asked ≡ 3 → Sees free ended line asked

unless-other : (fault : Fault) (asked : DeskLine) → kind asked ≡ 3 → kind (unless_fault fault refused_by asked) ≡ 3
unless-other fault asked h = by_bool (eqb fault.code 0) (λ e. rw e h) (λ e. rw e)

module _ (free ended : Bool) (line : List ℕ) where
  sees-word : Sees free ended line (word_asked ended line)
  unfolding word_asked
  sees-word =
      by_bool (same (field line 0) (bytes "early"))
      (λ a. rw a (Sees.other (unless-other (fault_of line (line_codes (bytes "early") [] ended line)) Early refl)))
      (λ a.
      by_bool (same (field line 0) (bytes "exact"))
      (λ b. rw (a, b) (Sees.other (unless-other (fault_of line (line_codes (bytes "exact") [] ended line)) Exact refl)))
      (λ b.
      by_bool (same (field line 0) (bytes "now"))
      (λ c. rw (a, b, c) (Sees.other (unless-other (fault_of line (line_codes (bytes "now") [] ended line)) Now refl)))
      (λ c.
      by_bool (same (field line 0) (bytes "drive"))
      (λ d. rw (a, b, c, d) (Sees.other (unless-other (fault_of line (line_codes (bytes "drive") (field_code 0 most ∷ []) ended line)) (Drive (value_of (field line 1))) refl)))
      (λ d.
      by_bool (same (field line 0) (bytes "why"))
      (λ e. rw (a, b, c, d, e) (Sees.other (unless-other (fault_of line (line_codes (bytes "why") (field_code 0 most ∷ []) ended line)) (Why (value_of (field line 1))) refl)))
      (λ e. rw (a, b, c, d, e) (Sees.entry refl))))))

  sees-choice : (choice : Choice) → choice_in ended line ≡ choice → free ≡ true → Sees free ended line (choice_asked choice (word_asked ended line))
  sees-choice Unsaid e f = sees-word
  sees-choice Chosen e f = Sees.rule f e refl
  sees-choice (Malformed column) e f = Sees.other refl

  sees : Sees free ended line (asked_of free ended line)
  unfolding asked_of
  sees =
      by_le (length line) 64
      (λ h.
      by_bool free
      (λ f. rw (le-ltb 64 (length line) h, f) (rw f at (sees-choice (choice_in ended line) refl f)))
      (λ f. rw (le-ltb 64 (length line) h, f) (rw f at sees-word)))
      (λ h. rw (lt-ltb 64 (length line) h) (Sees.other refl))

module _ (free ended : Bool) (line : List ℕ) where
  pub seen_step : (this : Entry) → asked_of free ended line ≡ Step this → kind (Step this) ≤ 1 → entry_of ended line ≡ this
  seen_step this q h = go (sees free ended line)
    where
      go : Sees free ended line (asked_of free ended line) → entry_of ended line ≡ this
      go (Sees.entry e) = let k : Step (entry_of ended line) ≡ Step this = sym e ∙ q in cc
      go (Sees.rule f c e) = let k : 2 ≡ kind (Step this) = ap kind (sym e ∙ q) in absurd (omega (arith, k, h))
      go (Sees.other k) = let g : kind (Step this) ≡ 3 = sym (ap kind q) ∙ k in absurd (omega (arith, g, h))

  pub seen-rule : asked_of free ended line ≡ Rule → (free ≡ true) × (choice_in ended line ≡ Chosen)
  seen-rule q = go (sees free ended line)
    where
      go : Sees free ended line (asked_of free ended line) → (free ≡ true) × (choice_in ended line ≡ Chosen)
      go (Sees.entry e) = let k : Step (entry_of ended line) ≡ Rule = sym e ∙ q in let z : ◌≡◌ {A = ℕ} 0 1 = cc in absurd (omega arith)
      go (Sees.rule f c e) = (f, c)
      go (Sees.other k) = let g : ◌≡◌ {A = ℕ} 2 3 = sym (ap kind q) ∙ k in absurd (omega (arith, g))
