-- A line of ends.txt: `end`, task, tick; or `drop`, task.
use Rattle.std.specs.Prelude.{ℕ, Bool, cond, List, [], ◌∷◌}
use Rattle.laws.specs.Lists.{same}
use Rattle.laws.specs.Split.{before}
use Rattle.text.specs.Bytes.{bytes}
use Rattle.text.specs.Number.{value_of, most}
use Rattle.text.specs.Line.{LF, field, has_line}
use Rattle.text_fields.specs.Faults.{field_code, line_codes, fault_of, unless_fault}
use Rattle.log_read.specs.Said.{Entry}
use Rattle.log_read.specs.Said.Entry.{End, Drop, Refused}

-- the refusal number of a line: 0 for one that says an end or a drop
abbrev pub entry_code : Entry → ℕ
entry_code (End task tick) = 0
entry_code (Drop task) = 0
entry_code (Refused code column) = code

-- `end`, task, tick; a number over 1,000,000 is 4
unfoldable pub end_codes : Bool → List ℕ → List ℕ
end_codes = line_codes (bytes "end") (field_code 0 most ∷ field_code 0 most ∷ [])

-- `drop`, task
unfoldable pub drop_codes : Bool → List ℕ → List ℕ
drop_codes = line_codes (bytes "drop") (field_code 0 most ∷ [])

-- a line whose word is `drop` says a drop, any other an end
unfoldable pub entry_of : Bool → List ℕ → Entry
entry_of ended line =
    cond (same (field line 0) (bytes "drop"))
    (unless_fault (fault_of line (drop_codes ended line)) Refused (Drop (value_of (field line 1))))
    (unless_fault (fault_of line (end_codes ended line)) Refused (End (value_of (field line 1)) (value_of (field line 2))))

-- the line that begins the text; a last line may have no LF
unfoldable pub next_entry : List ℕ → Entry
next_entry text = entry_of (has_line text) (before LF text)
