-- The lines of a log, from a book.
use Rattle.std.specs.Prelude.{ℕ, ◌+◌, ◌-◌, Bool, cond, not, ◌&&◌, List, [], ◌∷◌}
use Rattle.text.specs.Bytes.{bytes}
use Rattle.text.specs.Line.{lines_below}
use Rattle.theory.specs.Book.{waiting, is_dropped}
use Rattle.plan.specs.Value.{at}
use Rattle.book.specs.declared.Book.{Book}
use Rattle.log_write.specs.Lines.{numbers_line, run_by, task_line, start_word}
use Rattle.log_run.specs.declared.StepOutcome.{StepOutcome}

-- `run`, by the book's rule
abbrev pub run_line : Book → List ℕ
run_line book = run_by book.rule book.boards book.tasks

-- the start of task i, from 0
abbrev pub start_line : Book → ℕ → List ℕ
start_line book i =
    task_line (start_word (is_dropped (at book.dropped) i)) (i + 1) (at book.board i) (at book.begin i) (at book.start i)

-- the end of a task, from 1 as everywhere in a text
abbrev pub end_line : Book → ℕ → List ℕ
end_line book task =
    task_line (bytes "end") task (at book.board (task - 1)) (at book.finish (task - 1)) (at book.end (task - 1))

-- `drop` carries task and board
abbrev pub drop_line : Book → ℕ → List ℕ
drop_line book task = numbers_line (bytes "drop") (task ∷ at book.board (task - 1) ∷ [])

-- `early` carries clock and M
abbrev pub early_line : StepOutcome → List ℕ
early_line shown = numbers_line (bytes "early") (shown.book.clock ∷ shown.early ∷ [])

-- task i waited in the old book and waits no longer in the new one
abbrev pub has_started : Book → Book → ℕ → Bool
has_started old new i = waiting (at old.mark) i && not (waiting (at new.mark) i)

-- the `start` and `skip` lines of the tasks below n, by rising task number
abbrev pub start_lines : Book → Book → ℕ → List ℕ
start_lines old new n = lines_below (λ i. cond (has_started old new i) (start_line new i) []) n
