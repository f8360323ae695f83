-- The lines of the tasks that run, as they are written.
use Rattle.std.specs.Prelude.{ℕ, ◌+◌, ◌-◌, ◌*◌, ◌<◌, ◌≤◌, ◌≡◌, List, length}
use Rattle.theory.specs.Book.{running}
use Rattle.plan.specs.Value.{at}
use Rattle.book.specs.declared.Book.{Book}
use Rattle.ask_sheet.specs.Sheet.{numbers}
use Rattle.log_write.specs.Private.Wrote.{Wrote}
use Rattle.desk_answers.specs.Answers.{lines_each, runs_line}

-- a limit is a number that a line can say
abbrev pub LimitsFit : Book → Type 0
LimitsFit book =
    (i : ℕ) → i < book.tasks → at book.mark i ≡ 1 → at book.start i + (at book.finish i - at book.begin i) < 4294967296

-- the lines of the first n tasks that run, from the first byte on, and how many there are
pub record Running (book : Book) (out : List ℕ) (n : ℕ) (written : List ℕ) (place count : ℕ) : Type 0 where
  pub wrote : Wrote out 0 (lines_each (runs_line book) (numbers n (running (at book.mark)))) (52 * n) written place
  pub many : count ≡ length (numbers n (running (at book.mark)))
  pub few : count ≤ n
