-- The fields of a line, part by part, and what a last field is free of.
use Prim.Native.Nat.{ℕ, suc, ◌≤◌, ◌<◌}
use mathlib.Core.Path.{◌≡◌, refl, sym, ap, ◌∙◌}
use mathlib.Core.Bool.{Bool, true, false, cond, ◌&&◌}
use mathlib.Core.List.{List, [], ◌∷◌}
use native.Mathlib.Omega.{arith}
use lib.Dec.{eqb, leb}
use lib.ListN.{length, drop, get_or, length-drop, drop_of_length-le}
use borrow.Author.Tests.{eq-eqb, ne_eqb, eqb-true, leb-true}
use Rattle.std.specs.Prelude.{Option, None, Some, Result, Ok, Err}
use Rattle.std.specs.Result.{result_ok}
use Rattle.laws.specs.Lists.{all_of}
use Rattle.laws.specs.Split.{index_of, before, after}
use Rattle.laws.proofs.Cases.{by_bool, by-eq, by_le, and_l, and_r, true-false}
use Rattle.laws.proofs.Split.{free, split_one, split-none, split-found}
use Rattle.text.specs.Number.{is_number, value_of, most}
use Rattle.text.specs.Line.{TAB, fields, field}
use Rattle.text.proofs.Parts.{First, first, first_part, part-within, past-part, parts_last, parts_more}
use Rattle.text.proofs.Numerals.{number-spelt, digits-free}
use Rattle.text_fields.specs.Items.{between}
use Rattle.text_fields.specs.Faults.{code_for, field_code, ranged_read}
use Rattle.text_fields.specs.Said.{fault_number, ranged_in}
use Rattle.text_fields.specs.declared.FieldFault.{FieldFault}
use Rattle.text_fields.proofs.FaultLaws.{number-some as fault-some}
use Rattle.text_fields.proofs.RangedLaws.{field-code, ranged-code, ok-value}
use Rattle.plan.specs.Read.{ranged}
use Rattle.school.specs.Lines.{MINUS, is_earliness}
use Rattle.school_read.specs.Private.Rest.{number_in}

pub eqb-suc : (a b : ℕ) → eqb (suc a) (suc b) ≡ eqb a b
eqb-suc a b =
    by-eq a b
    (λ e. eq-eqb (suc a) (suc b) (omega arith) ∙ sym (eq-eqb a b e))
    (λ n. ne_eqb (suc a) (suc b) (λ e. n (omega arith)) ∙ sym (ne_eqb a b n))

-- ---- the first part, and what follows it

module _ (s part more : List ℕ) (e : part ≡ before TAB s) (q : more ≡ drop (suc (length part)) s) where
  pub parts-on : length part < length s → fields s ≡ part ∷ fields more
  parts-on h = parts_more TAB s part e (λ z. omega arith) ∙ rw (past-part TAB s part e more q)

  pub parts-stop : length s ≤ length part → (fields s ≡ part ∷ []) × (more ≡ [])
  parts-stop h =
      let g : length part ≡ length s = omega (arith, part-within TAB s part e) in
      (parts_last TAB s part e g, q ∙ drop_of_length-le s {i = suc (length part)} (omega arith))

  pub more-on : 0 < length more → length part < length s
  more-on h = omega (arith, ap length q, length-drop (suc (length part)) s)

-- ---- what has no tab

pub ranged-free : (low high : ℕ) (s : List ℕ) → ranged low high s ≡ true → free TAB s ≡ true
ranged-free low high s h =
    ap (free TAB) (sym (number-spelt s (and_l (is_number s) (between low high (value_of s)) h))) ∙ digits-free TAB (value_of s) (omega arith)

pub earliness-free : (s : List ℕ) → is_earliness s ≡ true → free TAB s ≡ true
unfolding is_earliness all_of
earliness-free [] h = refl
earliness-free (b ∷ s) h =
    by_bool (eqb b MINUS)
    (λ e. let z : b ≡ MINUS = eqb-true b MINUS e in rw z (ranged-free 1 most s (rw e at h)))
    (λ e. ranged-free 0 most (b ∷ s) (rw e at h))

-- a test that no text with a tab passes, of the last field
pub last-field : (p : List ℕ → Bool) (s : List ℕ) → (p s ≡ true → free TAB s ≡ true) → p s ≡ (eqb (length (fields s)) 1 && p (field s 0))
last-field p s f =
    by_bool (p s)
    (λ t. rw (split_one TAB s (f t)))
    (λ n. by_le (length s) (index_of TAB s) (λ h. rw (split-none TAB s h)) (λ h. more n h (first_part TAB (after TAB s))))
  where
    more : p s ≡ false → index_of TAB s < length s → First TAB (after TAB s) → p s ≡ (eqb (length (fields s)) 1 && p (field s 0))
    more n h (first later e) = rw (n, split-found TAB s h, e, ne_eqb (suc (suc (length later))) 1 (λ z. omega arith))

-- ---- numbers

pub number-read : (low high : ℕ) (s : List ℕ) (read : Result ℕ FieldFault) → high ≤ most → ranged_in read ≡ ranged_read low high s → result_ok read ≡ number_in low high s
number-read low high s read h e =
    let f = field-code low high s h in
    go read refl (ranged-code low high s e) (is_number s) (between low high (value_of s)) f
  where
    go : (r : Result ℕ FieldFault) → read ≡ r → (ranged_in read).code ≡ field_code low high s → (a b : Bool) → field_code low high s ≡ code_for a b → result_ok read ≡ cond (a && b) (Some (value_of s)) None
    go (Ok v) q c true true f = rw (q, ok-value low high s read e q)
    go (Ok v) q c true false f = let z : ◌≡◌ {A = ℕ} 0 4 = sym (ap (λ (x : Result ℕ FieldFault). (ranged_in x).code) q) ∙ c ∙ f in absurd (omega arith)
    go (Ok v) q c false b f = let z : ◌≡◌ {A = ℕ} 0 3 = sym (ap (λ (x : Result ℕ FieldFault). (ranged_in x).code) q) ∙ c ∙ f in absurd (omega arith)
    go (Err fault) q c true true f =
        let z : ◌≡◌ {A = ℕ} (fault_number fault) 0 = sym (ap (λ (x : Result ℕ FieldFault). (ranged_in x).code) q) ∙ c ∙ f in
        true-false (eq-eqb (fault_number fault) 0 z) (fault-some fault)
    go (Err fault) q c true false f = rw q
    go (Err fault) q c false b f = rw q

abbrev pub has_number : Option ℕ → Bool
has_number None = false
has_number (Some n) = true

abbrev number_or_zero : Option ℕ → ℕ
number_or_zero None = 0
number_or_zero (Some n) = n

module _ (low high : ℕ) (s : List ℕ) where
  number-is : has_number (number_in low high s) ≡ ranged low high s
  number-is = by_bool (ranged low high s) (λ t. rw t) (λ f. rw f)

  pub number-none : None ≡ number_in low high s → ranged low high s ≡ false
  number-none e = sym (ap has_number e ∙ number-is)

  pub number-some : {n : ℕ} → Some n ≡ number_in low high s → (ranged low high s ≡ true) × (n ≡ value_of s)
  number-some {n} e =
      let t : ranged low high s ≡ true = sym (ap has_number e ∙ number-is) in
      let v : number_or_zero (number_in low high s) ≡ value_of s = rw t in
      (t, ap number_or_zero e ∙ v)

  pub number-least : {n : ℕ} → Some n ≡ number_in low high s → low ≤ n
  number-least e =
      let r = number-some e in
      rw r.1
      (leb-true low (value_of s)
      (and_l (leb low (value_of s)) (leb (value_of s) high) (and_r (is_number s) (leb low (value_of s) && leb (value_of s) high) r.0)))

  pub number-fine : {x : Option ℕ} {b : Bool} → x ≡ number_in low high s → b ≡ has_number x → b ≡ ranged low high s
  number-fine e q = q ∙ ap has_number e ∙ number-is

module _ (s : List ℕ) where
  pub early-none : length s ≡ 0 → false ≡ is_earliness s
  unfolding is_earliness
  early-none h = go s h
    where
      go : (s : List ℕ) → length s ≡ 0 → false ≡ is_earliness s
      go [] h = refl
      go (b ∷ s) h = absurd (omega arith)

  pub early-late : get_or s 0 0 ≡ 45 → (length s ≡ 0 → ⊥) → {rest : List ℕ} → rest ≡ drop 1 s → {r : Bool} → r ≡ ranged 1 most rest → r ≡ is_earliness s
  unfolding is_earliness
  early-late h n e q = q ∙ rw e (go s h n)
    where
      go : (s : List ℕ) → get_or s 0 0 ≡ 45 → (length s ≡ 0 → ⊥) → ranged 1 most (drop 1 s) ≡ is_earliness s
      go [] h n = absurd (n refl)
      go (b ∷ s) h n = rw (eq-eqb b MINUS h)

  pub early-soon : (get_or s 0 0 ≡ 45 → ⊥) → (length s ≡ 0 → ⊥) → {r : Bool} → r ≡ ranged 0 most s → r ≡ is_earliness s
  unfolding is_earliness
  early-soon h n q = q ∙ go s h n
    where
      go : (s : List ℕ) → (get_or s 0 0 ≡ 45 → ⊥) → (length s ≡ 0 → ⊥) → ranged 0 most s ≡ is_earliness s
      go [] h n = absurd (n refl)
      go (b ∷ s) h n = rw (ne_eqb b MINUS h)
