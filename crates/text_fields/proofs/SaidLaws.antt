-- The numbers of a fault and the code of a field tell it: nothing is lost on the way.
use Prim.Native.Nat.{ℕ}
use mathlib.Core.Path.{◌≡◌, refl, sym, ap, ◌∙◌}
use mathlib.Core.Bool.{cond}
use lib.Dec.{eqb}
use Rattle.std.specs.Prelude.{Result, Ok, Err, Option, Some, None}
use Rattle.text.specs.declared.NumberFault.{NumberFault}
use Rattle.text.specs.declared.NumberFault.TheVariants as number
use Rattle.text_fields.specs.Items.{Items}
use Rattle.text_fields.specs.Faults.{Ranged, Fault}
use Rattle.text_fields.specs.Said.{fault_number, code_in, ranged_in, items_in, fault_in}
use Rattle.text_fields.specs.declared.FieldFault.{FieldFault}
use Rattle.text_fields.specs.declared.FieldFault.TheVariants.{Misspelt, OutOfRange, Shared, ReadyLate}
use Rattle.text_fields.specs.declared.Items as list
use Rattle.text_fields.specs.declared.Fault as line

abbrev pub kind_for : ℕ → FieldFault
kind_for n = cond (eqb n 3) Misspelt (cond (eqb n 4) OutOfRange (cond (eqb n 20) Shared ReadyLate))

pub of-number : (kind : FieldFault) → kind_for (fault_number kind) ≡ kind
of-number Misspelt = refl
of-number OutOfRange = refl
of-number Shared = refl
of-number ReadyLate = refl

pub of-fault : (fault : line.Fault) → record { kind = kind_for (fault_number fault.kind); column = fault.column } ≡ fault
of-fault fault = ap (λ (k : FieldFault). record { kind = k; column = fault.column }) (of-number fault.kind)

abbrev field_for : ℕ → Option FieldFault
field_for n = cond (eqb n 0) None (Some (kind_for n))

of-code : (fault : Option FieldFault) → field_for (code_in fault) ≡ fault
of-code None = refl
of-code (Some Misspelt) = refl
of-code (Some OutOfRange) = refl
of-code (Some Shared) = refl
of-code (Some ReadyLate) = refl

pub code-whole : (a b : Option FieldFault) → code_in a ≡ code_in b → a ≡ b
code-whole a b e = sym (of-code a) ∙ ap field_for e ∙ of-code b

abbrev ranged_for : Ranged → Result ℕ FieldFault
ranged_for read = cond (eqb read.code 0) (Ok read.value) (Err (kind_for read.code))

of-ranged : (r : Result ℕ FieldFault) → ranged_for (ranged_in r) ≡ r
of-ranged (Ok value) = refl
of-ranged (Err Misspelt) = refl
of-ranged (Err OutOfRange) = refl
of-ranged (Err Shared) = refl
of-ranged (Err ReadyLate) = refl

pub ranged-whole : (a b : Result ℕ FieldFault) → ranged_in a ≡ ranged_in b → a ≡ b
ranged-whole a b e = sym (of-ranged a) ∙ ap ranged_for e ∙ of-ranged b

abbrev items_for : Items → Result list.Items NumberFault
items_for read =
    cond (eqb read.code 0) (Ok (record { stop = read.stop; count = read.count; items = read.items }))
    (Err (cond (eqb read.code 3) (number.Misspelt read.stop) (number.Over read.stop)))

of-items : (r : Result list.Items NumberFault) → items_for (items_in r) ≡ r
of-items (Ok read) = refl
of-items (Err (number.Over stop)) = refl
of-items (Err (number.Misspelt stop)) = refl

pub items-whole : (a b : Result list.Items NumberFault) → items_in a ≡ items_in b → a ≡ b
items-whole a b e = sym (of-items a) ∙ ap items_for e ∙ of-items b

abbrev checked_for : Fault → Result (Unit {0}) line.Fault
checked_for fault = cond (eqb fault.code 0) (Ok (tt {0})) (Err (record { kind = kind_for fault.code; column = fault.column }))

of-checked : (r : Result (Unit {0}) line.Fault) → checked_for (fault_in r) ≡ r
of-checked (Ok done) = refl
of-checked (Err fault) = go fault.kind
  where
    go : (kind : FieldFault) → checked_for (record { code = fault_number kind; column = fault.column }) ≡ Err (record { kind = kind; column = fault.column })
    go Misspelt = refl
    go OutOfRange = refl
    go Shared = refl
    go ReadyLate = refl

pub fault-whole : (a b : Result (Unit {0}) line.Fault) → fault_in a ≡ fault_in b → a ≡ b
fault-whole a b e = sym (of-checked a) ∙ ap checked_for e ∙ of-checked b
