-- What a line says by its codes, whatever it says.
use Prim.Native.Nat.{ℕ}
use mathlib.Core.Path.{◌≡◌, ◌∙◌}
use mathlib.Core.Logic.{◌≢◌}
use mathlib.Core.Bool.{true}
use mathlib.Core.List.{List}
use lib.Dec.{eqb}
use borrow.Author.Tests.{eq-eqb, ne_eqb}
use Rattle.std.specs.Prelude.{Option}
use Rattle.laws.specs.Lists.{all_of}
use Rattle.text_fields.specs.Faults.{worst, column_of, fault_of, unless_fault}
use Rattle.text_fields.specs.Said.{fault_number}
use Rattle.text_fields.proofs.Codes.{codes_in}
use Rattle.text_fields.specs.declared.FieldFault.{FieldFault}
use Rattle.text_fields.proofs.FaultLaws.{is_code, faultless-is, faults-are-codes, number-some}

-- a line of no fault has only codes 0
pub no-fault : (line codes : List ℕ) → all_of is_code codes ≡ true → eqb (fault_of line codes).code 0 ≡ true → all_of (eqb 0) codes ≡ true
unfolding fault_of
no-fault line codes kinds e = faultless-is codes kinds ∙ e

module _ (line codes : List ℕ) {A : Type 0} (refused : ℕ → ℕ → A) (said : A) where
  pub fault-none : worst codes ≡ 0 → unless_fault (fault_of line codes) refused said ≡ said
  unfolding fault_of
  fault-none z = rw (eq-eqb (worst codes) 0 z)

  pub fault-some : worst codes ≢ 0 → unless_fault (fault_of line codes) refused said ≡ refused (worst codes) (column_of line codes (worst codes))
  unfolding fault_of
  fault-some d = rw (ne_eqb (worst codes) 0 d)

  -- by what checking the line answers
  pub refuses : (kind : FieldFault) {column : ℕ} → record { code = fault_number kind; column = column } ≡ fault_of line codes → refused (fault_number kind) column ≡ unless_fault (fault_of line codes) refused said
  refuses kind q = rw (← q, number-some kind)

  pub says : record { code = 0; column = 0 } ≡ fault_of line codes → {this : A} → this ≡ said → this ≡ unless_fault (fault_of line codes) refused said
  says q e = rw (← q) e

pub right-codes : (line : List ℕ) (faults : List (Option FieldFault)) → record { code = 0; column = 0 } ≡ fault_of line (codes_in faults) → all_of (eqb 0) (codes_in faults) ≡ true
right-codes line faults q = no-fault line (codes_in faults) (faults-are-codes faults) (rw (← q))
