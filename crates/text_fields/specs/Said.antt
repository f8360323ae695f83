-- What the readers of a line and of its fields answer, in the documents' numbers: nothing is lost on the way.
use Rattle.std.specs.Prelude.{ℕ, Option, None, Some, Result, Ok, Err}
use Rattle.text.specs.Number.{fault_stop}
use Rattle.text.specs.declared.NumberFault.{NumberFault}
use Rattle.text.specs.declared.NumberFault.TheVariants as number
use Rattle.text_fields.specs.Items.{Items, no_items}
use Rattle.text_fields.specs.Faults.{Ranged, Fault}
use Rattle.text_fields.specs.declared.FieldFault.{FieldFault}
use Rattle.text_fields.specs.declared.FieldFault.TheVariants.{Misspelt, OutOfRange, Shared, ReadyLate}
use Rattle.text_fields.specs.declared.Items as list
use Rattle.text_fields.specs.declared.Fault as line

abbrev pub fault_number : FieldFault → ℕ
fault_number Misspelt = 3
fault_number OutOfRange = 4
fault_number Shared = 20
fault_number ReadyLate = 18

-- the fault of a field by that of its number or list
abbrev pub fault_by : NumberFault → FieldFault
fault_by (number.Over stop) = OutOfRange
fault_by (number.Misspelt stop) = Misspelt

-- a field's code: 0 where it has no fault
abbrev pub code_in : Option FieldFault → ℕ
code_in None = 0
code_in (Some fault) = fault_number fault

abbrev pub ranged_in : Result ℕ FieldFault → Ranged
ranged_in (Ok value) = record { code = 0; value = value }
ranged_in (Err fault) = record { code = fault_number fault; value = 0 }

abbrev pub items_in : Result list.Items NumberFault → Items
items_in (Ok read) = record { code = 0; stop = read.stop; count = read.count; items = read.items }
items_in (Err fault) = no_items (fault_number (fault_by fault)) (fault_stop fault)

abbrev pub fault_in : {A : Type 0} → Result A line.Fault → Fault
fault_in (Ok done) = record { code = 0; column = 0 }
fault_in (Err fault) = record { code = fault_number fault.kind; column = fault.column }
