-- The lines of a log in words: their forms, and which of them say a task's start or end. Line k is counted from 0.
use Rattle.std.specs.Prelude.{ℕ, ◌≤◌, ◌<◌, ◌≡◌, ◌⊎◌, true, List, [], ◌∷◌, length}
use Rattle.laws.specs.Digits.{digits_of}
use Rattle.text.specs.Bytes.{bytes}
use Rattle.text.specs.Number.{most}
use Rattle.text.specs.Line.{has_line, skip, line_at, fields, field}
use Rattle.school.specs.Lines.{MINUS}

-- a number in a range, spelt as in a plan text
pub record Number (low high : ℕ) (s : List ℕ) : Type 0 where
  pub value : ℕ
  pub from : low ≤ value
  pub to : value ≤ high
  pub spelt : s ≡ digits_of value

-- ticks early: a number, or `-` before one that is not 0
pub data TicksEarly (s : List ℕ) : Type 0 where
  early : Number 0 most s → TicksEarly s
  late : (after : List ℕ) → s ≡ MINUS ∷ after → Number 1 most after → TicksEarly s

-- `run`, `1`, B, T, or `run`, `2`, B, T, `clash`, with the plan's B and T
abbrev pub RunLine : ℕ → ℕ → List ℕ → Type 0
RunLine boards tasks line =
    (fields line ≡ bytes "run" ∷ bytes "1" ∷ digits_of boards ∷ digits_of tasks ∷ [])
    ⊎ (fields line ≡ bytes "run" ∷ bytes "2" ∷ digits_of boards ∷ digits_of tasks ∷ bytes "clash" ∷ [])

-- `start` or `end`, task 1 to T, board 1 to B, tick, ticks early
pub record MomentLine (word : List ℕ) (boards tasks : ℕ) (line : List ℕ) : Type 0 where
  pub count : length (fields line) ≡ 5
  pub is : field line 0 ≡ word
  pub task : Number 1 tasks (field line 1)
  pub board : Number 1 boards (field line 2)
  pub tick : Number 0 most (field line 3)
  pub early : TicksEarly (field line 4)

-- any line but the first: `start`, `end`, or `early`, clock, figure, or `refused`, code, and two numbers
pub data LaterLine (boards tasks : ℕ) (line : List ℕ) : Type 0 where
  start : MomentLine (bytes "start") boards tasks line → LaterLine boards tasks line
  end : MomentLine (bytes "end") boards tasks line → LaterLine boards tasks line
  early :
      length (fields line) ≡ 3 → field line 0 ≡ bytes "early" → ((n : ℕ) → 1 ≤ n → n ≤ 2 → Number 0 most (field line n))
      → LaterLine boards tasks line
  refused :
      length (fields line) ≡ 4 → field line 0 ≡ bytes "refused" → ((n : ℕ) → 1 ≤ n → n ≤ 3 → Number 0 most (field line n))
      → LaterLine boards tasks line

-- line k stands in the log: line 0 always does, an empty one where the log is empty
abbrev pub IsThere : List ℕ → ℕ → Type 0
IsThere log k = (k ≡ 0) ⊎ (0 < length (skip k log))

-- it has its form, its LF included; `run` is line 0 and no other
pub record HasForm (boards tasks : ℕ) (log : List ℕ) (k : ℕ) : Type 0 where
  pub ended : has_line (skip k log) ≡ true
  pub first : k ≡ 0 → RunLine boards tasks (line_at log k)
  pub later : 0 < k → LaterLine boards tasks (line_at log k)

-- line k has this word and names this task, from 1: it is a start, or an end, of it
abbrev pub Names : List ℕ → List ℕ → ℕ → ℕ → Type 0
Names log word task k = (field (line_at log k) 0 ≡ word) × (field (line_at log k) 1 ≡ digits_of task)

-- one line does, and no other, and it says this tick; equal lines that stand twice are two
pub record Once (log word : List ℕ) (task tick : ℕ) : Type 0 where
  pub line : ℕ
  pub names : Names log word task line
  pub only : (k : ℕ) → Names log word task k → k ≡ line
  pub says : field (line_at log line) 3 ≡ digits_of tick

-- each that does names this board
abbrev pub On : List ℕ → List ℕ → ℕ → ℕ → Type 0
On log word task board = (k : ℕ) → Names log word task k → field (line_at log k) 2 ≡ digits_of board

-- it is missing, doubled, or on another board
pub data Wrong (log word : List ℕ) (task board : ℕ) : Type 0 where
  missing : ((k : ℕ) → Names log word task k → ⊥) → Wrong log word task board
  doubled : (j k : ℕ) → j < k → Names log word task j → Names log word task k → Wrong log word task board
  elsewhere : (k : ℕ) → Names log word task k → (field (line_at log k) 2 ≡ digits_of board → ⊥) → Wrong log word task board

-- other has the same lines, the first one first and the later ones in any order: line k of it is line `place k` of the log
pub record Reordered (log other : List ℕ) : Type 0 where
  pub place : ℕ → ℕ
  pub back : ℕ → ℕ
  pub first : place 0 ≡ 0
  pub there : (k : ℕ) → back (place k) ≡ k
  pub again : (k : ℕ) → place (back k) ≡ k
  pub same : (k : ℕ) → line_at other k ≡ line_at log (place k)
  pub stands : (k : ℕ) → IsThere other k → IsThere log (place k)
  pub ended : (k : ℕ) → IsThere other k → has_line (skip k other) ≡ true
