-- The first line, by the tests that lead to its answer.
use Prim.Native.Nat.{ℕ, ◌≤◌}
use mathlib.Core.Path.{◌≡◌, refl, sym, ◌∙◌}
use Rattle.laws.proofs.Cases.{by_bool}
use mathlib.Core.Bool.{Bool, true, false, cond, ◌&&◌}
use mathlib.Core.List.{List}
use lib.Dec.{eqb}
use Rattle.std.specs.Prelude.{Option, None, Some, Result, Ok, Err}
use Rattle.std.specs.Result.{result_ok}
use lib.ListN.{length}
use borrow.Author.Tests.{eq-eqb, ne_eqb}
use Rattle.laws.specs.Lists.{same}
use Rattle.text.specs.Bytes.{bytes}
use Rattle.text.specs.Number.{is_number, value_of, most}
use Rattle.text.specs.Line.{fields, field}
use Rattle.text_fields.specs.Items.{between}
use Rattle.text_fields.specs.Faults.{code_for, field_code, ranged_read}
use Rattle.text_fields.proofs.FaultLaws.{number-some}
use Rattle.text_fields.specs.Said.{ranged_in}
use Rattle.text_fields.specs.declared.FieldFault.{FieldFault}
use Rattle.text_fields.proofs.RangedLaws.{field-code, ranged-code, ranged-value}
use Rattle.plan.specs.Read.{ranged, sizes_ok}
use Rattle.plan_read.specs.Private.Fields.{size_read, edition_read, sizes_read}
use Rattle.plan_read.specs.Private.Editions.{edition_by}
use Rattle.plan_read.specs.declared.Edition.{Edition}
use Rattle.plan_read.specs.declared.Sizes.{Sizes}

code-test : (a b : Bool) → eqb (code_for a b) 0 ≡ (a && b)
code-test false b = refl
code-test true false = refl
code-test true true = refl

-- a number of the line

module _ (low high : ℕ) (s : List ℕ) (small : high ≤ most) where
  ranged-test : field_code low high s ≡ code_for (is_number s) (between low high (value_of s))
  ranged-test = field-code low high s small

  pub size-ok : (r : Result ℕ FieldFault) → ranged_in r ≡ ranged_read low high s → result_ok r ≡ size_read low high s
  size-ok (Ok v) p =
      let z : field_code low high s ≡ 0 = sym (ranged-code low high s p) in
      let t : ranged low high s ≡ true = sym (code-test (is_number s) (between low high (value_of s))) ∙ eq-eqb _ 0 (sym ranged-test ∙ z) in
      rw (t, ranged-value low high s p z)
  size-ok (Err fault) p =
      let t : ranged low high s ≡ false = sym (code-test (is_number s) (between low high (value_of s))) ∙ rw (← ranged-test, ← ranged-code low high s p) (number-some fault) in
      rw t

module _ (low high : ℕ) (s : List ℕ) where
  size-none : None ≡ size_read low high s → ranged low high s ≡ false
  size-none h = by_bool (ranged low high s) (λ e. let q : None ≡ Some (value_of s) = rw e at h in cc) (λ e. e)

  size-some : {x : ℕ} → Some x ≡ size_read low high s → (ranged low high s ≡ true) × (x ≡ value_of s)
  size-some {x} h =
      by_bool (ranged low high s)
      (λ e. let q : Some x ≡ Some (value_of s) = rw e at h in (e, cc))
      (λ e. let q : Some x ≡ None = rw e at h in cc)

module _ (mends : Bool) (s : List ℕ) where
  edition-none : None ≡ edition_read mends s → ranged (cond mends 2 1) 2 s ≡ false
  edition-none h =
      by_bool (ranged (cond mends 2 1) 2 s) (λ e. let q : None ≡ Some (edition_by mends (value_of s)) = rw e at h in cc) (λ e. e)

  edition-some : {edition : Edition} → Some edition ≡ edition_read mends s → (ranged (cond mends 2 1) 2 s ≡ true) × (edition ≡ edition_by mends (value_of s))
  edition-some {edition} h =
      by_bool (ranged (cond mends 2 1) 2 s)
      (λ e. let q : Some edition ≡ Some (edition_by mends (value_of s)) = rw e at h in (e, cc))
      (λ e. let q : Some edition ≡ None = rw e at h in cc)

module _ (mends : Bool) (line : List ℕ) where
  pub sizes-count : (length (fields line) ≡ 4 → ⊥) → ◌≡◌ {A = Option Sizes} None (sizes_read mends line)
  unfolding sizes_read sizes_ok
  sizes-count n = rw (ne_eqb (length (fields line)) 4 n)

  module _ (four : length (fields line) ≡ 4) {word : Bool} (w : word ≡ same (field line 0) (bytes "plan")) where
    pub sizes-word : word ≡ false → ◌≡◌ {A = Option Sizes} None (sizes_read mends line)
    unfolding sizes_read sizes_ok
    sizes-word h = rw (eq-eqb (length (fields line)) 4 four, sym w ∙ h)

    module _ (is-plan : word ≡ true) where
      ok-is : sizes_ok mends line ≡ (ranged (cond mends 2 1) 2 (field line 1) && (ranged 1 8 (field line 2) && ranged 1 64 (field line 3)))
      unfolding sizes_ok
      ok-is = rw (eq-eqb (length (fields line)) 4 four, sym w ∙ is-plan)

      pub sizes-no-edition : None ≡ edition_read mends (field line 1) → ◌≡◌ {A = Option Sizes} None (sizes_read mends line)
      unfolding sizes_read
      sizes-no-edition h = rw (ok-is, edition-none mends (field line 1) h)

      module _ {edition : Edition} (e : Some edition ≡ edition_read mends (field line 1)) where
        es : (ranged (cond mends 2 1) 2 (field line 1) ≡ true) × (edition ≡ edition_by mends (value_of (field line 1)))
        es = edition-some mends (field line 1) e

        pub sizes-no-boards : None ≡ size_read 1 8 (field line 2) → ◌≡◌ {A = Option Sizes} None (sizes_read mends line)
        unfolding sizes_read
        sizes-no-boards h = rw (ok-is, es.0, size-none 1 8 (field line 2) h)

        module _ {boards : ℕ} (b : Some boards ≡ size_read 1 8 (field line 2)) where
          bs : (ranged 1 8 (field line 2) ≡ true) × (boards ≡ value_of (field line 2))
          bs = size-some 1 8 (field line 2) b

          pub sizes-no-tasks : None ≡ size_read 1 64 (field line 3) → ◌≡◌ {A = Option Sizes} None (sizes_read mends line)
          unfolding sizes_read
          sizes-no-tasks h = rw (ok-is, es.0, bs.0, size-none 1 64 (field line 3) h)

          pub sizes-in :
              {tasks : ℕ} → Some tasks ≡ size_read 1 64 (field line 3)
              → ◌≡◌ {A = Option Sizes} (Some (record { edition = edition; boards = boards; tasks = tasks })) (sizes_read mends line)
          unfolding sizes_read
          sizes-in t = let ts = size-some 1 64 (field line 3) t in rw (ok-is, es.0, bs.0, ts.0, es.1, bs.1, ts.1)
