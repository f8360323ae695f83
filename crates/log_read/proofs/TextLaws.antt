-- The line that begins a text: what it says, and how many bytes it uses up.
use Prim.Native.Nat.{ℕ, suc, ◌+◌, ◌≤◌, ◌<◌}
use mathlib.Core.Path.{◌≡◌, refl, sym, ap, ◌∙◌, subst}
use mathlib.Core.Logic.{◌≢◌}
use mathlib.Core.Bool.{Bool, true, false}
use mathlib.Core.List.{List, [], ◌∷◌}
use native.Mathlib.Omega.{arith}
use lib.Dec.{ltb, eqb}
use lib.ListN.{length, get_or, take, length-append, length-take, length-drop, get_or-eq_default}
use borrow.Author.Tests.{eqb-false, ltb-true}
use Rattle.laws.proofs.Cases.{by_bool, by_le, true-false}
use Rattle.laws.specs.Lists.{all_of, same}
use Rattle.laws.proofs.Lists.{same-eq}
use Rattle.laws.specs.Split.{index_of, before, after, join_on}
use Rattle.laws.proofs.Split.{join-split}
use Rattle.text.specs.Bytes.{bytes}
use Rattle.text.specs.Line.{LF, has_line, fields, field}
use Rattle.text.specs.Number.{is_number, most}
use Rattle.std.specs.Prelude.{Result, Ok, Err, is_err}
use Rattle.text.specs.Number.{value_of}
use Rattle.text_fields.specs.Faults.{Fault, field_codes, worst, fault_of, unless_fault}
use Rattle.text_fields.proofs.RangedLaws.{field-zero}
use Rattle.text_fields.proofs.FaultLaws.{is_code, faultless-is, word-zero, end-zero, zero-at}
use Rattle.log_read.specs.Entries.{end_codes, drop_codes, entry_of, next_entry, entry_code}
use Rattle.log_read.specs.Said.{Entry, said}
use Rattle.log_read.specs.Said.Entry.{End, Drop, Refused}
use Rattle.log_read.specs.declared.LineFault.{LineFault}
use Rattle.log_read.specs.declared.Entry as entry
use Rattle.log_read.specs.declared.Entry.TheVariants as read
use Rattle.log_read.proofs.EntryLaws.{end-kinds, drop-kinds}

pub next-is : (s : List ℕ) {r : ℕ} → r ≡ index_of LF s → entry_of (ltb r (length s)) (take r s) ≡ next_entry s
unfolding next_entry
next-is s p = rw p

number-some : (s : List ℕ) → is_number s ≡ true → 1 ≤ length s
unfolding is_number
number-some [] h = true-false h refl
number-some (b ∷ s) h = omega arith

-- a separator before each part but the first
joined : (a : List ℕ) (l : List (List ℕ)) → length a + length l ≤ length (join_on 9 (a ∷ l))
unfolding join_on
joined a [] = omega arith
joined a (b ∷ l) = omega (arith, joined b l, length-append a (9 ∷ join_on 9 (b ∷ l)))

two-parts :
    (l : List (List ℕ)) → 2 ≤ length l → length (get_or l 0 []) + length (get_or l 1 []) + length l ≤ length (join_on 9 l) + 1
unfolding join_on
two-parts [] h = absurd (omega arith)
two-parts (a ∷ []) h = absurd (omega arith)
two-parts (a ∷ b ∷ l) h = omega (arith, joined b l, length-append a (9 ∷ join_on 9 (b ∷ l)))

-- the word, a tab before each number, and a digit
names-bytes : (word : List ℕ) (n : ℕ) (line : List ℕ) → 2 ≤ n → n ≤ length (fields line) → same (field line 0) word ≡ true → is_number (field line 1) ≡ true → length word + n ≤ length line
names-bytes word n line few count is number =
    let w : length (field line 0) ≡ length word = ap length (same-eq (field line 0) word is) in
    let a = number-some (field line 1) number in
    omega (arith, two-parts (fields line) (omega arith), ap length (join-split 9 line))

-- a number stands in a field that is there
there : (line : List ℕ) (n : ℕ) → is_number (field line n) ≡ true → n < length (fields line)
unfolding is_number
there line n h =
    by_le (length (fields line)) n
    (λ few. true-false (rw (get_or-eq_default (fields line) [] few) at h) refl)
    (λ few. few)

-- a line that is not refused has no fault
no-fault : (line codes : List ℕ) (entry : Entry) → entry_code (unless_fault (fault_of line codes) Refused entry) ≡ 0 → all_of is_code codes ≡ true → all_of (eqb 0) codes ≡ true
unfolding fault_of
no-fault line codes entry z kinds =
    by_bool (eqb (worst codes) 0)
    (λ e. faultless-is codes kinds ∙ e)
    (λ e. absurd (eqb-false (worst codes) 0 e (rw e at z)))

module _ (ended : Bool) (line : List ℕ) where
  abbrev Whole : Type 0
  Whole = (ended ≡ true) × (6 ≤ length line)

  end_whole : all_of (eqb 0) (end_codes ended line) ≡ true → Whole
  unfolding end_codes field_codes
  end_whole all =
      let at = zero-at (end_codes ended line) all in
      let task = (field-zero 0 most (field line 1) (omega arith) (at 1 (omega arith))).spelt in
      let tick = (field-zero 0 most (field line 2) (omega arith) (at 2 (omega arith))).spelt in (
        (end-zero ended 3 line (at 3 (omega arith))).0,
        names-bytes (bytes "end") 3 line (omega arith) (there line 2 tick) (word-zero (bytes "end") (field line 0) (at 0 (omega arith))) task,
      )

  drop-whole : all_of (eqb 0) (drop_codes ended line) ≡ true → Whole
  unfolding drop_codes field_codes
  drop-whole all =
      let at = zero-at (drop_codes ended line) all in
      let task = (field-zero 0 most (field line 1) (omega arith) (at 1 (omega arith))).spelt in (
        (end-zero ended 2 line (at 2 (omega arith))).0,
        names-bytes (bytes "drop") 2 line (omega arith) (there line 1 task) (word-zero (bytes "drop") (field line 0) (at 0 (omega arith))) task,
      )

  whole : entry_code (entry_of ended line) ≡ 0 → Whole
  unfolding entry_of
  whole z =
      by_bool (same (field line 0) (bytes "drop"))
      (λ e. drop-whole (no-fault line (drop_codes ended line) _ (rw e at z) (drop-kinds ended line)))
      (λ e. end_whole (no-fault line (end_codes ended line) _ (rw e at z) (end-kinds ended line)))

-- a line that is not refused uses up 7 bytes
pub line-used : (s : List ℕ) → entry_code (next_entry s) ≡ 0 → length (after LF s) + 7 ≤ length s
unfolding next_entry
line-used s z =
    let w = whole (has_line s) (before LF s) z in
    let i = ltb-true (index_of LF s) (length s) w.0 in
    omega (arith, w.1, length-take (index_of LF s) s, length-drop (suc (index_of LF s)) s)

-- ---- the number that refuses a line: what is so of the worst of any codes is so of it

module _ (P : ℕ → Type 0) where
  unless-refused :
      (fault : Fault) (entry : Entry) {code column : ℕ} → (fault.code ≢ 0 → P fault.code) → (entry ≡ Refused code column → ⊥)
      → unless_fault fault Refused entry ≡ Refused code column → P code
  unless-refused fault entry {code} {column} so other e =
      by_bool (eqb fault.code 0)
      (λ t. absurd (other (rw t at e)))
      (λ t.
      let q : Refused fault.code fault.column ≡ Refused code column = rw t at e in
      let i : fault.code ≡ code = cc in
      subst P i (so (eqb-false fault.code 0 t)))

  module _ (so : (codes : List ℕ) → worst codes ≢ 0 → P (worst codes)) where
    faulty : (line codes : List ℕ) → (fault_of line codes).code ≢ 0 → P (fault_of line codes).code
    unfolding fault_of
    faulty line codes = so codes

    pub entry-refused : (ended : Bool) (line : List ℕ) {code column : ℕ} → entry_of ended line ≡ Refused code column → P code
    unfolding entry_of
    entry-refused ended line e =
        let drops = faulty line (drop_codes ended line) in
        let ends = faulty line (end_codes ended line) in
        by_bool (same (field line 0) (bytes "drop"))
        (λ t. unless-refused (fault_of line (drop_codes ended line)) (Drop (value_of (field line 1))) drops (λ x. cc) (rw t at e))
        (λ t. unless-refused (fault_of line (end_codes ended line)) (End (value_of (field line 1)) (value_of (field line 2))) ends (λ x. cc) (rw t at e))

    pub next-refused : (s : List ℕ) {code column : ℕ} → next_entry s ≡ Refused code column → P code
    unfolding next_entry
    next-refused s e = entry-refused (has_line s) (before LF s) e

pub stops-code : (s : List ℕ) (r : Result entry.Entry LineFault) → said r ≡ next_entry s → is_err r ≡ true → entry_code (next_entry s) ≢ 0
stops-code s (Ok entry) e h = true-false h refl
stops-code s (Err fault) e h = λ z. let z' : fault.number ≡ 0 = rw (← e) at z in next-refused (λ n. n ≢ 0) (λ codes some. some) s (sym e) z'

pub goes-code : (s : List ℕ) (r : Result entry.Entry LineFault) → said r ≡ next_entry s → is_err r ≡ false → entry_code (next_entry s) ≡ 0
goes-code s (Ok (read.End task tick)) e h = ap entry_code (sym e)
goes-code s (Ok (read.Drop task)) e h = ap entry_code (sym e)
goes-code s (Err fault) e h = true-false refl h
