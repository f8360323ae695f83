-- The column that a refused line names.
use Rattle.std.specs.Prelude.{ℕ, ◌+◌, ◌≤◌, ◌<◌, ◌≡◌, ◌≢◌, Bool, false, List, length}
use Rattle.laws.specs.Split.{begin_of}
use Rattle.text.specs.Line.{TAB, fields}
use Rattle.plan.specs.Value.{at}

-- of a line of so many fields, each with its code
module _ (width : ℕ) (ended : Bool) (line codes : List ℕ) (code column : ℕ) where
  -- where field n begins, from 1
  abbrev pub begins_at : ℕ → ℕ
  begins_at n = begin_of TAB line n + 1

  -- what stands at the column: a faulty field; nothing where a field is missing; a field too many; nothing where the LF is missing
  pub data Names : Type 0 where
    faulty_field : (n : ℕ) → n < width → n < length (fields line) → at codes n ≡ code → column ≡ begins_at n → Names
    missing_field : length (fields line) < width → code ≡ 3 → column ≡ length line + 1 → Names
    field_too_many : width < length (fields line) → code ≡ 3 → column ≡ begins_at width → Names
    missing_lf : length (fields line) ≤ width → ended ≡ false → code ≡ 3 → column ≡ length line + 1 → Names

  -- 3 before 4, 4 before 20 and 20 before 18, each at its leftmost field
  pub record ColumnSays : Type 0 where
    pub from : 1 ≤ column
    pub to : column ≤ length line + 1
    pub names : Names
    pub leftmost : (n : ℕ) → n < width → begins_at n < column → at codes n ≢ code
    pub no_three : code ≢ 3 → (n : ℕ) → n ≤ width → at codes n ≢ 3
    pub no_four : code ≢ 3 → code ≢ 4 → (n : ℕ) → n ≤ width → at codes n ≢ 4
    pub no_twenty : code ≡ 18 → (n : ℕ) → n ≤ width → at codes n ≢ 20
