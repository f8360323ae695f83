-- A line that is typed at the desk: what it asks, or the code and the column that refuse it.
use Rattle.std.specs.Prelude.{ℕ, Bool, cond, List, [], ◌∷◌, ltb, length}
use Rattle.laws.specs.Lists.{same}
use Rattle.text.specs.Bytes.{bytes}
use Rattle.text.specs.Number.{value_of, most}
use Rattle.text.specs.Line.{field}
use Rattle.text_fields.specs.Faults.{field_code, line_codes, fault_of, unless_fault}
use Rattle.log_read.specs.Entries.{entry_of}
use Rattle.log_read.specs.Rules.{choice_in}
use Rattle.log_read.specs.Said.Entry.{Refused}
use Rattle.log_read.specs.Said.{Choice}
use Rattle.log_read.specs.Said.Choice.{Unsaid, Chosen, Malformed}
use Rattle.desk_read.specs.Asked.{DeskLine}
use Rattle.desk_read.specs.Asked.DeskLine.{Step, Rule, Early, Exact, Now, Drive, Why}

-- the refusal of a line, as of one of ends.txt
abbrev pub refused_by : ℕ → ℕ → DeskLine
refused_by code column = Step (Refused code column)

-- a `rule` line as the first of ends.txt; any other word says nothing of the rule
abbrev pub choice_asked : Choice → DeskLine → DeskLine
choice_asked Unsaid otherwise = otherwise
choice_asked Chosen otherwise = Rule
choice_asked (Malformed column) otherwise = refused_by 3 column

-- a line whose word is that of a question is judged in its form
abbrev pub question_or : Bool → List ℕ → List ℕ → List (List ℕ → ℕ) → DeskLine → DeskLine → DeskLine
question_or ended line word codes asked otherwise =
    cond (same (field line 0) word) (unless_fault (fault_of line (line_codes word codes ended line)) refused_by asked) otherwise

-- the questions: a word alone, or with a number, of which one over 1,000,000 is 4. Any other line is one of ends.txt
unfoldable pub word_asked : Bool → List ℕ → DeskLine
word_asked ended line =
    let asks = question_or ended line in
    let number = field_code 0 most ∷ [] in
    let n = value_of (field line 1) in
    asks (bytes "early") [] Early
    (asks (bytes "exact") [] Exact
    (asks (bytes "now") [] Now
    (asks (bytes "drive") number (Drive n)
    (asks (bytes "why") number (Why n) (Step (entry_of ended line))))))

-- more than 64 bytes are 3 with column 65, whatever they are; `rule` is a word while the rule may still be chosen
unfoldable pub asked_of : Bool → Bool → List ℕ → DeskLine
asked_of free ended line =
    cond (ltb 64 (length line)) (refused_by 3 65)
    (cond free (choice_asked (choice_in ended line) (word_asked ended line)) (word_asked ended line))
