-- The rows of request P2 hold, and each impostor of the column says another one.
use mathlib.Core.Path.{◌≡◌, refl}
use mathlib.Core.Bool.{true}
use Rattle.laws.specs.Lists.{all_of}
use Rattle.text_fields.specs.Faults.{fault_of}
use Rattle.tables.specs.Texts.{answered}
use Rattle.tables.specs.Columns.{column_rows, stopped, entry_rows, three_faults, three_codes, last_of, from_zero, field_end, tabs_twice, rightmost, four_first}
use Rattle.tables.proofs.Computing.{computing}

pub columns : (all_of answered column_rows ≡ true) × (all_of stopped entry_rows ≡ true)
unfolding computing
columns = (refl, refl)

-- 3 at column 20, where the holds field begins
pub column-impostors :
    (fault_of three_faults three_codes ≡ record { code = 3; column = 20 })
    × (from_zero 3 ≡ 19)
    × (field_end 3 ≡ 22)
    × (tabs_twice 3 ≡ 25)
    × (rightmost 3 ≡ 23)
    × (four_first ≡ 4)
unfolding computing last_of
column-impostors = (refl, refl, refl, refl, refl, refl)
