-- The first line of ends.txt may choose the clash rule: `rule`, `clash`.
use Rattle.std.specs.Prelude.{ℕ, Bool, cond, List, [], ◌∷◌}
use Rattle.laws.specs.Lists.{same}
use Rattle.laws.specs.Split.{before}
use Rattle.text.specs.Bytes.{bytes}
use Rattle.text.specs.Line.{LF, field, has_line}
use Rattle.text_fields.specs.Faults.{word_code, line_codes, fault_of, unless_fault}
use Rattle.log_read.specs.Said.{Choice}
use Rattle.log_read.specs.Said.Choice.{Unsaid, Chosen, Malformed}

-- `rule`, `clash`; each of these codes is 0 or 3
unfoldable pub rule_codes : Bool → List ℕ → List ℕ
rule_codes = line_codes (bytes "rule") (word_code (bytes "clash") ∷ [])

-- a faultless line chooses, a faulty one is malformed at its fault's column;
-- a line with any other word says nothing of the rule
unfoldable pub choice_in : Bool → List ℕ → Choice
choice_in ended line = cond (same (field line 0) (bytes "rule")) (unless_fault (fault_of line (rule_codes ended line)) (λ code column. Malformed column) Chosen) Unsaid

-- what the line that begins the text chooses
unfoldable pub choice_of : List ℕ → Choice
choice_of text = choice_in (has_line text) (before LF text)
