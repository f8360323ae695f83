-- The codes of a line's fields, and the faults that they stand for.
use Prim.Native.Nat.{ℕ}
use mathlib.Core.Path.{◌≡◌, refl}
use mathlib.Core.Logic.{◌≢◌}
use mathlib.Core.Bool.{Bool, true, false, not}
use mathlib.Core.List.{List, map}
use lib.Dec.{eqb}
use Rattle.std.specs.Prelude.{Option, Some, None, is_some}
use Rattle.laws.specs.Lists.{any_of}
use Rattle.laws.proofs.Cases.{by_bool, true-false}
use Rattle.text_fields.specs.Faults.{worst}
use Rattle.text_fields.specs.Said.{fault_number, code_in}
use Rattle.text_fields.specs.declared.FieldFault.{FieldFault}
use Rattle.text_fields.specs.declared.FieldFault.TheVariants.{Misspelt, OutOfRange, Shared, ReadyLate}

abbrev pub codes_in : List (Option FieldFault) → List ℕ
codes_in faults = map code_in faults

-- a field has no fault where its code is 0
pub none-is-zero : (fault : Option FieldFault) (b : Bool) → is_some fault ≡ not b → b ≡ eqb 0 (code_in fault)
none-is-zero None true h = refl
none-is-zero None false h = true-false h refl
none-is-zero (Some Misspelt) true h = true-false refl h
none-is-zero (Some OutOfRange) true h = true-false refl h
none-is-zero (Some Shared) true h = true-false refl h
none-is-zero (Some ReadyLate) true h = true-false refl h
none-is-zero (Some Misspelt) false h = refl
none-is-zero (Some OutOfRange) false h = refl
none-is-zero (Some Shared) false h = refl
none-is-zero (Some ReadyLate) false h = refl

-- the number is that of a kind of fault
pub record IsKind (number : ℕ) : Type 0 where
  pub kind : FieldFault
  pub is : fault_number kind ≡ number

-- and so is what refuses a line, whatever its codes
pub worst-kind : (codes : List ℕ) → worst codes ≢ 0 → IsKind (worst codes)
unfolding worst
worst-kind codes some =
    by_bool (any_of (eqb 3) codes)
    (λ a. record { kind = Misspelt; is = rw a })
    (λ a.
    by_bool (any_of (eqb 4) codes)
    (λ b. record { kind = OutOfRange; is = rw (a, b) })
    (λ b.
    by_bool (any_of (eqb 20) codes)
    (λ c. record { kind = Shared; is = rw (a, b, c) })
    (λ c.
    by_bool (any_of (eqb 18) codes)
    (λ d. record { kind = ReadyLate; is = rw (a, b, c, d) })
    (λ d. absurd (some (rw (a, b, c, d)))))))
