-- A number in a range: its code, its value, and what a code of 0 says.
use Prim.Native.Nat.{ℕ, ◌≤◌, ◌<◌}
use mathlib.Core.Path.{◌≡◌, refl, sym, ap, ◌∙◌}
use mathlib.Core.Bool.{true, false}
use mathlib.Core.List.{List}
use native.Mathlib.Omega.{arith}
use lib.Dec.{leb}
use borrow.Author.Tests.{eq-eqb, le-leb, lt-leb, leb-true, leb-false}
use Rattle.laws.proofs.Cases.{by_bool, and_l, and_r, and_no, true-false}
use Rattle.text.specs.Number.{is_number, value_of, most, number_of}
use Rattle.text_fields.specs.Items.{between}
use Rattle.text_fields.specs.Faults.{Ranged, code_for, field_code, ranged_read}
use Rattle.std.specs.Prelude.{Result, Ok, Err, IsOk}
use Rattle.std.specs.Result.{result_err}
use Rattle.text.specs.declared.NumberFault.{NumberFault}
use Rattle.text.specs.declared.NumberFault.TheVariants.{Over, Misspelt}
use Rattle.text_fields.specs.Said.{fault_number, fault_by, code_in, ranged_in}
use Rattle.text_fields.specs.declared.FieldFault.{FieldFault}
use Rattle.text_fields.proofs.FaultLaws.{number-some}
use Rattle.text_fields.proofs.ItemLaws.{value-is}

-- in a range that ends at 1,000,000 at the latest
pub field-code : (low high : ℕ) (s : List ℕ) → high ≤ most → field_code low high s ≡ code_for (is_number s) (between low high (value_of s))
unfolding number_of
field-code low high s h =
    by_bool (is_number s)
    (λ e.
    by_bool (leb (value_of s) most)
    (λ f. by_bool (between low high (value_of s)) (λ b. rw (e, f, b)) (λ b. rw (e, f, b)))
    (λ f.
    let big = leb-false (value_of s) most f in
    let out : between low high (value_of s) ≡ false = rw (lt-leb (value_of s) high (omega arith)) (and_no (leb low (value_of s))) in
    rw (e, f, out)))
    (λ e. rw e)

-- ---- a number in a range

module _ (low high : ℕ) (s : List ℕ) where
  module _ {v j : ℕ} (q : Ok (v, j) ≡ number_of s) where
    pub ranged-in : low ≤ v → v ≤ high → ◌≡◌ {A = Ranged} (record { code = 0; value = v }) (ranged_read low high s)
    unfolding ranged_read
    ranged-in lo hi = let e = value-is s v j q in rw (← q, le-leb low v lo, le-leb v high hi, e)

    ranged-off : between low high v ≡ false → ◌≡◌ {A = Ranged} (record { code = 4; value = 0 }) (ranged_read low high s)
    unfolding ranged_read
    ranged-off h = rw (← q, h)

    pub ranged-low : v < low → ◌≡◌ {A = Ranged} (record { code = 4; value = 0 }) (ranged_read low high s)
    ranged-low h = ranged-off (rw (lt-leb low v h))

    pub ranged-high : high < v → ◌≡◌ {A = Ranged} (record { code = 4; value = 0 }) (ranged_read low high s)
    ranged-high h = ranged-off (rw (lt-leb v high h) (and_no (leb low v)))

  pub ranged-fault : (fault : NumberFault) → Err fault ≡ number_of s → ◌≡◌ {A = Ranged} (record { code = fault_number (fault_by fault); value = 0 }) (ranged_read low high s)
  unfolding ranged_read
  ranged-fault (Over j) q = rw (← q)
  ranged-fault (Misspelt j) q = rw (← q)

-- a code of 0, and what it says
pub record InRange (low high : ℕ) (s : List ℕ) : Type 0 where
  pub spelt : is_number s ≡ true
  pub from : low ≤ value_of s
  pub to : value_of s ≤ high

pub field-zero : (low high : ℕ) (s : List ℕ) → high ≤ most → field_code low high s ≡ 0 → InRange low high s
field-zero low high s h z =
    let e : code_for (is_number s) (between low high (value_of s)) ≡ 0 = sym (field-code low high s h) ∙ z in
    by_bool (is_number s)
    (λ n.
    by_bool (between low high (value_of s))
    (λ b.
    record {
      spelt = n;
      from = leb-true low (value_of s) (and_l (leb low (value_of s)) (leb (value_of s) high) b);
      to = leb-true (value_of s) high (and_r (leb low (value_of s)) (leb (value_of s) high) b);
    })
    (λ b. let q : ◌≡◌ {A = ℕ} 4 0 = rw (n, b) at e in absurd (omega arith)))
    (λ n. let q : ◌≡◌ {A = ℕ} 3 0 = rw n at e in absurd (omega arith))

pub zero_field : (low high : ℕ) (s : List ℕ) → high ≤ most → InRange low high s → field_code low high s ≡ 0
zero_field low high s h r =
    field-code low high s h ∙ rw (r.spelt, le-leb low (value_of s) r.from, le-leb (value_of s) high r.to)

-- what was read of a number: its code, and its value where it is in its range and where not
module _ (low high : ℕ) (s : List ℕ) {x : Ranged} (p : x ≡ ranged_read low high s) where
  pub ranged-code : x.code ≡ field_code low high s
  unfolding ranged_read
  ranged-code = ap (λ (y : Ranged). y.code) p

  pub ranged-value : field_code low high s ≡ 0 → x.value ≡ value_of s
  unfolding ranged_read
  ranged-value z = rw (p, eq-eqb (field_code low high s) 0 z)

-- what reading a number answers
module _ (low high : ℕ) (s : List ℕ) where
  pub err-code : (r : Result ℕ FieldFault) → ranged_in r ≡ ranged_read low high s → code_in (result_err r) ≡ field_code low high s
  err-code (Ok v) p = ranged-code low high s p
  err-code (Err fault) p = ranged-code low high s p

  -- a right one is there
  pub ok-there : (r : Result ℕ FieldFault) → ranged_in r ≡ ranged_read low high s → field_code low high s ≡ 0 → IsOk r
  ok-there (Ok v) p z = refl
  ok-there (Err fault) p z = let e : fault_number fault ≡ 0 = ranged-code low high s p ∙ z in true-false (eq-eqb (fault_number fault) 0 e) (number-some fault)

  pub ok-value : {v : ℕ} (r : Result ℕ FieldFault) → ranged_in r ≡ ranged_read low high s → r ≡ Ok v → v ≡ value_of s
  ok-value r p e = let q : record { code = 0; value = _ } ≡ ranged_read low high s = rw e at p in ranged-value low high s q (sym (ranged-code low high s q))

  ranged-most : (ranged_read low high s).value ≤ most
  unfolding ranged_read number_of
  ranged-most =
      by_bool (is_number s)
      (λ e.
      by_bool (leb (value_of s) most)
      (λ f.
      let small = leb-true (value_of s) most f in
      by_bool (between low high (value_of s)) (λ b. rw (e, f, b) small) (λ b. rw (e, f, b) (omega arith)))
      (λ f. rw (e, f) (omega arith)))
      (λ e. rw e (omega arith))

pub ranged-small : (low high : ℕ) (s : List ℕ) {r : Ranged} → r ≡ ranged_read low high s → r.value ≤ 1000000
ranged-small low high s e = rw e (ranged-most low high s)
