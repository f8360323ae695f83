-- The faults of a line, field by field: a code for each, and the column that is named. A missing field counts as an empty one.
use Rattle.std.specs.Prelude.{ℕ, ◌+◌, Bool, not, cond, ◌&&◌, List, [], ◌∷◌, leb, eqb, length, Result, Ok, Err}
use Rattle.laws.specs.Lists.{any_of, same}
use Rattle.laws.specs.Split.{index_of, begin_of}
use Rattle.text.specs.Number.{value_of, number_of}
use Rattle.text.specs.Line.{TAB, fields, field}
use Rattle.text_fields.specs.Items.{between}
use Rattle.text.specs.declared.NumberFault.{NumberFault}
use Rattle.text.specs.declared.NumberFault.TheVariants.{Over, Misspelt}

-- a number field's code and value
pub record Ranged : Type 0 where
  pub code : ℕ
  pub value : ℕ

-- a line's code and column, from 1; zeros where it is faultless
pub record Fault : Type 0 where
  pub code : ℕ
  pub column : ℕ

-- 3 where something is misspelt, else 4 where it is out of range or does not rise
abbrev pub code_for : Bool → Bool → ℕ
code_for spelt fine = cond (not spelt) 3 (cond (not fine) 4 0)

-- what the number reader's answer is refused by: misspelt 3, out of its range 4
abbrev pub number_code : ℕ → ℕ → Result (ℕ × ℕ) NumberFault → ℕ
number_code low high (Ok (v, stop)) = cond (between low high v) 0 4
number_code low high (Err (Over stop)) = 4
number_code low high (Err (Misspelt stop)) = 3

abbrev pub field_code : ℕ → ℕ → List ℕ → ℕ
field_code low high s = number_code low high (number_of s)

-- a number from low to high: its code, and its value where that is 0
unfoldable pub ranged_read : ℕ → ℕ → List ℕ → Ranged
ranged_read low high s =
    let code = field_code low high s in record { code = code; value = cond (eqb code 0) (value_of s) 0 }

-- 3 for a wrong word
unfoldable pub word_code : List ℕ → List ℕ → ℕ
word_code word s = cond (same s word) 0 3

-- what stands after the last of n fields: 3 for one more field, and for no LF
unfoldable pub end_code : Bool → ℕ → List ℕ → ℕ
end_code ended n line = cond (ended && leb (length (fields line)) n) 0 3

-- the codes of the fields from field n on, and of the line's end
unfoldable pub field_codes : ℕ → List (List ℕ → ℕ) → Bool → List ℕ → List ℕ
field_codes n [] ended line = end_code ended n line ∷ []
field_codes n (code ∷ codes) ended line = code (field line n) ∷ field_codes (n + 1) codes ended line

-- the form of a line: a word, and what each further field is refused by
abbrev pub line_codes : List ℕ → List (List ℕ → ℕ) → Bool → List ℕ → List ℕ
line_codes word codes ended line = word_code word (field line 0) ∷ field_codes 1 codes ended line

-- 3, then 4, then 20, then 18
unfoldable pub worst : List ℕ → ℕ
worst codes =
    cond (any_of (eqb 3) codes) 3 (cond (any_of (eqb 4) codes) 4 (cond (any_of (eqb 20) codes) 20 (cond (any_of (eqb 18) codes) 18 0)))

-- where the leftmost field of that code begins, from 1; just past the line's last byte where none stands there
abbrev pub column_of : List ℕ → List ℕ → ℕ → ℕ
column_of line codes code = begin_of TAB line (index_of code codes) + 1

-- a line's code by those of its fields from the left and of its end, and the column
unfoldable pub fault_of : List ℕ → List ℕ → Fault
fault_of line codes = let code = worst codes in record { code = code; column = cond (eqb code 0) 0 (column_of line codes code) }

-- what a faultless line says, or its refusal with code and column
abbrev pub unless_fault : {A : Type 0} → Fault → (ℕ → ℕ → A) → A → A
unless_fault fault refused said = cond (eqb fault.code 0) said (refused fault.code fault.column)
