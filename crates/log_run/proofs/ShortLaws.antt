-- The column of a refused line is a number that an answer can say.
use Prim.Native.Nat.{ℕ, ◌≤◌, ◌<◌}
use mathlib.Core.Path.{◌≡◌, refl, ap}
use mathlib.Core.List.{List}
use native.Mathlib.Omega.{arith}
use lib.Dec.{eqb}
use lib.ListN.{length, length-take}
use Rattle.laws.proofs.Cases.{by_bool}
use Rattle.laws.specs.Lists.{same}
use Rattle.laws.specs.Split.{index_of, before}
use Rattle.text.specs.Bytes.{bytes}
use Rattle.text.specs.Line.{LF, has_line, field}
use Rattle.text.specs.Number.{value_of}
use Rattle.text_fields.specs.Faults.{Fault, fault_of, unless_fault}
use Rattle.text_fields.proofs.FaultLaws.{column-most}
use Rattle.log_read.specs.Entries.{end_codes, drop_codes, entry_of, next_entry}
use Rattle.log_read.specs.Rules.{rule_codes, choice_in, choice_of}
use Rattle.log_read.specs.Said.{Choice}
use Rattle.log_read.specs.Said.Choice.{Unsaid, Chosen, Malformed}
use Rattle.log_read.specs.Said.{Entry}
use Rattle.log_read.specs.Said.Entry.{End, Drop, Refused}
use Rattle.log_run.specs.Answers.{within}
use Rattle.log_run.specs.Private.Writes.{Short}

-- a column is at most the length of the rest and one more
fault-short : (fault : Fault) (entry : Entry) → Short entry → fault.column < 4294967296 → Short (unless_fault fault Refused entry)
fault-short fault entry h g = by_bool (eqb fault.code 0) (λ e. rw e h) (λ e. rw e g)

small-column : (s codes : List ℕ) → length s ≤ 32770 → (fault_of (before LF s) codes).column < 4294967296
small-column s codes h = omega (arith, column-most (before LF s) codes, length-take (index_of LF s) s)

pub next-short : (s : List ℕ) → length s ≤ 32770 → Short (next_entry s)
unfolding next_entry entry_of
next-short s h =
    let line = before LF s in
    by_bool (same (field line 0) (bytes "drop"))
    (λ e. rw e (fault-short (fault_of line (drop_codes (has_line s) line)) (Drop (value_of (field line 1))) (omega arith) (small-column s (drop_codes (has_line s) line) h)))
    (λ e. rw e (fault-short (fault_of line (end_codes (has_line s) line)) (End (value_of (field line 1)) (value_of (field line 2))) (omega arith) (small-column s (end_codes (has_line s) line) h)))

-- likewise of a first line that says the rule
abbrev ShortChoice : Choice → Type 0
ShortChoice Unsaid = 0 ≤ 0
ShortChoice Chosen = 0 ≤ 0
ShortChoice (Malformed column) = column < 4294967296

choice-short : (s : List ℕ) → length s ≤ 32770 → ShortChoice (choice_of s)
unfolding choice_of choice_in
choice-short s h =
    let line = before LF s in
    let fault = fault_of line (rule_codes (has_line s) line) in
    by_bool (same (field line 0) (bytes "rule"))
    (λ e. rw e (by_bool (eqb fault.code 0) (λ q. rw q (omega arith)) (λ q. rw q (small-column s (rule_codes (has_line s) line) h))))
    (λ e. rw e (omega arith))

pub malformed-short : (s : List ℕ) → length s ≤ 32768 → {choice : Choice} {column : ℕ} → choice ≡ choice_of s → choice ≡ Malformed column → column < 4294967296
malformed-short s h {column = column} k c = let r : ShortChoice (Malformed column) = rw (← k, c) at (choice-short s (omega arith)) in r

-- any entry is short once its column is
pub within-short : (entry : Entry) → Short (within entry)
within-short (End task tick) = omega arith
within-short (Drop task) = omega arith
within-short (Refused code column) = omega arith

pub short-made : (entry made : Entry) → made ≡ within entry → Short made
short-made entry made m = rw m (within-short entry)

pub short-within : (entry : Entry) → Short entry → within entry ≡ entry
short-within (End task tick) h = refl
short-within (Drop task) h = refl
short-within (Refused code column) h = ap (λ (n : ℕ). Refused code n) (omega (arith, h))
