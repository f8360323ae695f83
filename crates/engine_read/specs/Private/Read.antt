-- What is read of the task field, and of each of the two lines.
use Rattle.std.specs.Prelude.{ℕ, Bool, cond, List, eqb}
use Rattle.text.specs.Number.{value_of}
use Rattle.text.specs.Line.{field}
use Rattle.text_fields.specs.Faults.{Ranged, fault_of, unless_fault}
use Rattle.engine_read.specs.Lines.{task_code, length_codes, drop_codes}
use Rattle.engine_read.specs.Said.{LengthLine}
use Rattle.engine_read.specs.Said.{Length, Drop, Refused}

-- its code, and its value where that is 0
unfoldable pub task_read : ℕ → (ℕ → Bool) → List ℕ → Ranged
task_read tasks earlier s =
    let code = task_code tasks earlier s in record { code = code; value = cond (eqb code 0) (value_of s) 0 }

abbrev pub length_said : ℕ → (ℕ → Bool) → Bool → List ℕ → LengthLine
length_said tasks earlier ended line =
    unless_fault (fault_of line (length_codes tasks earlier ended line)) Refused (Length (value_of (field line 1)) (value_of (field line 2)))

abbrev pub drop_said : ℕ → (ℕ → Bool) → Bool → List ℕ → LengthLine
drop_said tasks earlier ended line = unless_fault (fault_of line (drop_codes tasks earlier ended line)) Refused (Drop (value_of (field line 1)))
