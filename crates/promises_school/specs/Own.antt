-- A log that `runlog` printed, over its lines, and what is printed where it is judged. Tasks are counted from 0 here.
use Rattle.std.specs.Prelude.{ℕ, zero, suc, ◌+◌, ◌≤◌, ◌<◌, ◌≡◌, ◌≢◌, length}
use mathlib.Core.List.{List, [], ◌∷◌, ◌++◌, Memᴰ}
use Rattle.laws.specs.Digits.{digits_of}
use Rattle.laws.specs.Split.{split_on}
use Rattle.text.specs.Bytes.{bytes}
use Rattle.text.specs.Line.{LF, field, line_text}
use Rattle.plan.specs.Answer.{granted}
use Rattle.plan.specs.Read.{reading_of}
use Rattle.log_run.specs.Log.{log_of}

-- a line of the log is an `end` line of task i
pub record EndLine (log : List ℕ) (i : ℕ) : Type 0 where
  pub line : List ℕ
  pub stands : Memᴰ line (split_on LF log)
  pub word : field line 0 ≡ bytes "end"
  pub task : field line 1 ≡ digits_of (i + 1)

-- of an accepted plan text and any ends.txt: the log has an `end` line for each task, no `drop` line and at most 32,768 bytes
pub record OwnLog (plan ends : List ℕ) : Type 0 where
  pub read : (reading_of plan).answer ≡ granted
  pub ended : (i : ℕ) → i < (reading_of plan).plan.tasks → EndLine (log_of plan ends) i
  pub undropped : (line : List ℕ) → Memᴰ line (split_on LF (log_of plan ends)) → field line 0 ≢ bytes "drop"
  pub short : length (log_of plan ends) ≤ 32768

-- for each task below n its number and a figure
unfoldable pub figure_rows : (ℕ → List ℕ) → ℕ → List ℕ
figure_rows figure zero = []
figure_rows figure (suc n) = figure_rows figure n ++ line_text (digits_of (n + 1) ∷ figure n ∷ [])

-- what is printed: for each task the ticks early that each of its `end` lines of the log carries; then `accepted`
pub record OwnFigures (tasks : ℕ) (log printed : List ℕ) : Type 0 where
  pub figure : ℕ → List ℕ
  pub carried : (i : ℕ) → i < tasks → (own : EndLine log i) → field own.line 4 ≡ figure i
  pub text : printed ≡ figure_rows figure tasks ++ line_text (bytes "accepted" ∷ [])
