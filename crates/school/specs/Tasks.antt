-- What a list of lines says of a task, i from 0.
use Rattle.std.specs.Prelude.{ℕ, ◌+◌, Bool, false, cond, ◌&&◌, List, [], ◌∷◌, eqb}
use Rattle.school.specs.Lines.{says_none}
use Rattle.school.specs.Said.{LogLine}

-- the line is a start, or an end, of the task
abbrev pub is_start : ℕ → LogLine → Bool
is_start i said = eqb said.start (i + 1)

abbrev pub is_end : ℕ → LogLine → Bool
is_end i said = eqb said.end (i + 1)

module _ (p : LogLine → Bool) where
  -- of how many lines p holds; equal lines that stand twice are two
  unfoldable pub how_many : List LogLine → ℕ
  how_many [] = 0
  how_many (said ∷ lines) = cond (p said) 1 0 + how_many lines

  -- the first line of which p holds; nothing is said where there is none
  unfoldable pub first_of : List LogLine → LogLine
  first_of [] = says_none false
  first_of (said ∷ lines) = cond (p said) said (first_of lines)

-- exactly one start and one end, whatever boards they name
abbrev pub is_known : List LogLine → ℕ → Bool
is_known lines i = eqb (how_many (is_start i) lines) 1 && eqb (how_many (is_end i) lines) 1

abbrev pub start_in : List LogLine → ℕ → ℕ
start_in lines i = (first_of (is_start i) lines).tick

abbrev pub end_in : List LogLine → ℕ → ℕ
end_in lines i = (first_of (is_end i) lines).tick

-- both on this board
abbrev pub are_on : ℕ → List LogLine → ℕ → Bool
are_on board lines i = eqb (first_of (is_start i) lines).board board && eqb (first_of (is_end i) lines).board board
