-- Lines that are always short enough for the room of a line.
use Rattle.std.specs.Prelude.{ℕ, ◌+◌, ◌*◌, cond, ◌&&◌, List, [], ◌∷◌, ◌++◌, map, leb, length}
use Rattle.laws.specs.Digits.{digits_of}
use Rattle.laws.specs.Split.{join_on}
use Rattle.text.specs.Line.{TAB}
use Rattle.log_write.specs.Lines.{numbers_line}

-- a word and numbers with tabs between, and the bytes that end the line
unfoldable pub line_to : List ℕ → List ℕ → List ℕ → List ℕ
line_to end word numbers = join_on TAB (word ∷ map digits_of numbers) ++ end

-- such a line where `lineMost` bytes are always enough for it, and otherwise none
abbrev pub short_to : List ℕ → List ℕ → List ℕ → List ℕ
short_to end word numbers =
    cond (leb (length word) 7 && leb (length end + 11 * length numbers) 45) (line_to end word numbers) []

-- a word of up to 7 bytes and up to 4 numbers, and otherwise no line
abbrev pub short_line : List ℕ → List ℕ → List ℕ
short_line word numbers = cond (leb (length word) 7 && leb (length numbers) 4) (numbers_line word numbers) []
