-- The lines of a log, and how one is written into lent bytes.
use Rattle.std.specs.Prelude.{ℕ, ◌+◌, ◌-◌, ◌≤◌, ◌≡◌, Bool, cond, List, [], ◌∷◌, map, leb, eqb, length}
use Rattle.std.proofs.lemmas.List.Edits.{sets}
use Rattle.laws.specs.Digits.{digits_of}
use Rattle.text.specs.Bytes.{bytes}
use Rattle.text.specs.Line.{line_text}
use Rattle.plan.specs.declared.Answer.{Answer}

-- a word and numbers, with tabs and LF as in a plan text
unfoldable pub numbers_line : List ℕ → List ℕ → List ℕ
numbers_line word numbers = line_text (word ∷ map digits_of numbers)

-- `run`, 1, B, T; by the clash rule `run`, 2, B, T, `clash`
unfoldable pub run_by : ℕ → ℕ → ℕ → List ℕ
run_by rule boards tasks =
    cond (eqb rule 0) (numbers_line (bytes "run") (1 ∷ boards ∷ tasks ∷ []))
    (line_text (bytes "run" ∷ digits_of 2 ∷ digits_of boards ∷ digits_of tasks ∷ bytes "clash" ∷ []))

-- `start`, `skip` and `end` carry task, board, tick, ticks early against plan
abbrev pub task_line : List ℕ → ℕ → ℕ → ℕ → ℕ → List ℕ
task_line word task board planned actual = numbers_line word (task ∷ board ∷ actual ∷ (planned - actual) ∷ [])

-- the word of a start: a dropped task is skipped
abbrev pub start_word : Bool → List ℕ
start_word dropped = cond dropped (bytes "skip") (bytes "start")

-- `refused` carries code and the table's two numbers
abbrev pub refused_line : Answer → List ℕ
refused_line answer = numbers_line (bytes "refused") (answer.code ∷ answer.first ∷ answer.second ∷ [])

-- no line is longer
abbrev pub line_most : ℕ
line_most = 52

-- a line is written from a place on where so many bytes are left, and otherwise nothing; r is the place after what was written
pub record Lined (out : List ℕ) (from : ℕ) (line : List ℕ) (most : ℕ) (written : List ℕ) (r : ℕ) : Type 0 where
  pub place : r ≡ cond (leb (from + line_most) (length out)) (from + length line) from
  pub bytes : written ≡ cond (leb (from + line_most) (length out)) (sets out from line) out
  pub small : from + line_most ≤ length out → length line ≤ most
