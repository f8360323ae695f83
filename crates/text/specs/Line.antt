-- Lines of text, one record a line, fields parted by one tab, each line ended by one LF.
use Rattle.std.specs.Prelude.{ℕ, zero, suc, Bool, cond, List, [], ◌∷◌, ◌++◌, ltb, length, get_or}
use Rattle.laws.specs.Digits.{digits_of}
use Rattle.laws.specs.Split.{index_of, before, skip_on, split_on, join_on}
use Rattle.text.specs.Bytes.{bytes}

abbrev pub TAB : ℕ
TAB = 9

abbrev pub LF : ℕ
LF = 10

-- does a line begin the text, its LF included
abbrev pub has_line : List ℕ → Bool
has_line s = ltb (index_of LF s) (length s)

-- the text after its first n lines
abbrev pub skip : ℕ → List ℕ → List ℕ
skip n s = skip_on LF n s

-- line n of the text, from 0, without its LF
abbrev pub line_at : List ℕ → ℕ → List ℕ
line_at s n = before LF (skip n s)

-- the fields of a line, and one of them, from 0
abbrev pub fields : List ℕ → List (List ℕ)
fields line = split_on TAB line

abbrev pub field : List ℕ → ℕ → List ℕ
field line n = get_or (fields line) n []

-- a line made of its fields
abbrev pub line_text : List (List ℕ) → List ℕ
line_text parts = join_on TAB parts ++ (LF ∷ [])

-- a number as a field, or `-` where there is none
abbrev pub number_or : Bool → ℕ → List ℕ
number_or known n = cond known (digits_of n) (bytes "-")

-- what is written of each number below n, by rising number
unfoldable pub lines_below : (ℕ → List ℕ) → ℕ → List ℕ
lines_below line zero = []
lines_below line (suc n) = lines_below line n ++ line n
