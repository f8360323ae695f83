-- Codes that refuse a line alike.
use Prim.Native.Nat.{ℕ, ◌<◌}
use mathlib.Core.Path.{◌≡◌, refl, ◌∙◌}
use mathlib.Core.Logic.{◌⊎◌, inl, inr}
use mathlib.Core.Bool.{true, false}
use mathlib.Core.List.{List}
use native.Mathlib.Omega.{arith}
use lib.Dec.{eqb}
use lib.ListN.{length}
use borrow.Author.Tests.{lt-ltb, le-ltb}
use Rattle.laws.proofs.Cases.{by_bool, by_le}
use Rattle.laws.specs.Lists.{any_of}
use Rattle.laws.specs.Split.{index_of}
use Rattle.text.specs.Number.{number_of}
use Rattle.text_fields.specs.Items.{between}
use Rattle.std.specs.Prelude.{Result, Ok, Err}
use Rattle.text.specs.declared.NumberFault.{NumberFault}
use Rattle.text.specs.declared.NumberFault.TheVariants.{Over, Misspelt}
use Rattle.text_fields.specs.Faults.{number_code, field_code, worst, fault_of}
use Rattle.text_fields.proofs.FaultLaws.{any_found}

-- a number's code is 0, 3 or 4
abbrev pub Plain : ℕ → Type 0
Plain code = (code ≡ 0) ⊎ ((code ≡ 3) ⊎ (code ≡ 4))

pub field_plain : (low high : ℕ) (s : List ℕ) → Plain (field_code low high s)
field_plain low high s = go (number_of s)
  where
    go : (r : Result (ℕ × ℕ) NumberFault) → Plain (number_code low high r)
    go (Ok (v, stop)) = by_bool (between low high v) (λ e. rw e (inl refl)) (λ e. rw e (inr (inr refl)))
    go (Err (Over stop)) = inr (inr refl)
    go (Err (Misspelt stop)) = inr (inl refl)

-- it is misspelt in whatever range
pub misspelt-same : (low other high : ℕ) (s : List ℕ) → eqb (field_code low high s) 3 ≡ eqb (field_code other high s) 3
misspelt-same low other high s = go (number_of s)
  where
    go : (r : Result (ℕ × ℕ) NumberFault) → eqb (number_code low high r) 3 ≡ eqb (number_code other high r) 3
    go (Ok (v, stop)) =
        by_bool (between low high v)
        (λ e. by_bool (between other high v) (λ f. rw (e, f)) (λ f. rw (e, f)))
        (λ e. by_bool (between other high v) (λ f. rw (e, f)) (λ f. rw (e, f)))
    go (Err (Over stop)) = refl
    go (Err (Misspelt stop)) = refl

-- two lists of as many codes, with the first 3 in one place
module _ (line these those : List ℕ) (size : length these ≡ length those) (three : index_of 3 these ≡ index_of 3 those) where
  pub alike-three : index_of 3 these < length these → fault_of line these ≡ fault_of line those
  unfolding fault_of worst
  alike-three h =
      let t : any_of (eqb 3) these ≡ true = any_found 3 these ∙ lt-ltb (index_of 3 these) (length these) h in
      let u : any_of (eqb 3) those ≡ true = any_found 3 those ∙ lt-ltb (index_of 3 those) (length those) (omega arith) in
      rw (t, u, three)

  -- and the first 4
  pub alike-four : index_of 4 these ≡ index_of 4 those → index_of 4 these < length these → fault_of line these ≡ fault_of line those
  unfolding fault_of worst
  alike-four four h =
      by_le (length these) (index_of 3 these)
      (λ l.
      let t : any_of (eqb 3) these ≡ false = any_found 3 these ∙ le-ltb (index_of 3 these) (length these) l in
      let u : any_of (eqb 3) those ≡ false = any_found 3 those ∙ le-ltb (index_of 3 those) (length those) (omega arith) in
      let v : any_of (eqb 4) these ≡ true = any_found 4 these ∙ lt-ltb (index_of 4 these) (length these) h in
      let w : any_of (eqb 4) those ≡ true = any_found 4 those ∙ lt-ltb (index_of 4 those) (length those) (omega arith) in
      rw (t, u, v, w, four))
      alike-three
