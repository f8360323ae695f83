-- The lines of a text, and what a first line keeps.
use Prim.Native.Nat.{ℕ, ◌+◌, ◌<◌, ◌≤◌}
use mathlib.Core.List.{List, [], ◌∷◌}
use mathlib.Core.Bool.{Bool, true, cond}
use mathlib.Core.Path.{◌≡◌}
use native.Mathlib.Numerals.{add-one}
use lib.ListN.{length, get_or}
use lib.Dec.{eqb}
use Rattle.laws.proofs.Cases.{and_l, and_r}
use Rattle.laws.proofs.Conj.{conj-at}
use Rattle.laws.specs.Digits.{digits_of}
use Rattle.laws.specs.Lists.{same}
use Rattle.laws.specs.Split.{after}
use Rattle.laws.proofs.Split.{skip-suc}
use Rattle.text.proofs.Numerals.{number-spelt}
use Rattle.text.specs.Bytes.{bytes}
use Rattle.text.specs.Number.{is_number, value_of}
use Rattle.text.specs.Line.{LF, skip, fields, field}
use Rattle.text_fields.specs.Items.{between}
use Rattle.plan.specs.Read.{ranged, sizes_ok}
use Rattle.plan.proofs.PlanTasks.{between-facts}

pub skip-turn : (n : ℕ) (s : List ℕ) → skip (n + 1) s ≡ after LF (skip n s)
skip-turn n s = rw add-one (skip-suc LF n s)

abbrev sizes_tests : Bool → List ℕ → List Bool
sizes_tests mends line =
    eqb (length (fields line)) 4
    ∷ same (field line 0) (bytes "plan")
    ∷ ranged (cond mends 2 1) 2 (field line 1)
    ∷ ranged 1 8 (field line 2)
    ∷ ranged 1 64 (field line 3)
    ∷ []

pub sizes-test : (mends : Bool) (line : List ℕ) → sizes_ok mends line ≡ true → (i : ℕ) → i < 5 → get_or (sizes_tests mends line) i true ≡ true
unfolding sizes_ok
sizes-test mends line h i l = conj-at (sizes_tests mends line) h i l

pub number-range :
    (low high : ℕ) (s : List ℕ) → ranged low high s ≡ true
    → (digits_of (value_of s) ≡ s) × (low ≤ value_of s) × (value_of s ≤ high)
number-range low high s h =
    let r = between-facts low high (value_of s) (and_r (is_number s) (between low high (value_of s)) h) in
    (number-spelt s (and_l (is_number s) (between low high (value_of s)) h), r.0, r.1)
