-- What is answered to a question about a book as a whole.
use Rattle.std.specs.Prelude.{ℕ, ◌-◌, Bool, cond, List, [], ◌∷◌, ◌++◌, map, length}
use Rattle.laws.specs.Digits.{digits_of}
use Rattle.text.specs.Bytes.{bytes}
use Rattle.text.specs.Line.{line_text, number_or}
use Rattle.theory.specs.Book.{running, limit}
use Rattle.plan.specs.Answer.{refuse, is_granted}
use Rattle.plan.specs.Value.{at}
use Rattle.plan.specs.declared.Answer.{Answer}
use Rattle.book.specs.View.{plan_view, book_view}
use Rattle.book.specs.Sound.{is_sound}
use Rattle.book.specs.Early.{figure_of}
use Rattle.book.specs.declared.Book.{Book}
use Rattle.ask_exact.specs.Figure.{exact_of}
use Rattle.ask_sheet.specs.Sheet.{numbers}
use Rattle.log_write.specs.Lines.{numbers_line, refused_line}

-- a `refused` line where the library refuses, else the answer's lines
abbrev pub unless_refused : Answer → List ℕ → List ℕ
unless_refused answer lines = cond (is_granted answer) lines (refused_line answer)

-- a line for each task number
unfoldable pub lines_each : (ℕ → List ℕ) → List ℕ → List ℕ
lines_each line [] = []
lines_each line (task ∷ tasks) = line task ++ lines_each line tasks

-- a word, numbers, and one that may not be known
unfoldable pub known_line : List ℕ → List ℕ → Bool → ℕ → List ℕ
known_line word numbers known last = line_text (word ∷ (map digits_of numbers ++ (number_or known last ∷ [])))

-- `early`, clock, M
unfoldable pub early_answer : Book → List ℕ
early_answer book =
    unless_refused (figure_of book).answer (numbers_line (bytes "early") (book.clock ∷ (figure_of book).early ∷ []))

-- `exact`, clock, the exact figure or `-`
unfoldable pub exact_answer : Book → List ℕ
exact_answer book =
    unless_refused (exact_of book).answer
    (known_line (bytes "exact") (book.clock ∷ []) (exact_of book).known (exact_of book).early)

-- the numbers of the tasks whose start is known and which have not ended, rising; a start past the clock is known
abbrev pub running_in : Book → List ℕ
running_in book = numbers book.tasks (running (at book.mark))

-- `runs`, task, board, start, limit
abbrev pub runs_line : Book → ℕ → List ℕ
runs_line book task =
    numbers_line (bytes "runs")
    (task ∷ at book.board (task - 1) ∷ at book.start (task - 1) ∷ limit (plan_view book) (book_view book) (task - 1) ∷ [])

-- these lines, and `now`, clock, how many; 9 for a book that is not sound
unfoldable pub now_answer : Book → List ℕ
now_answer book =
    cond (is_sound book)
    (lines_each (runs_line book) (running_in book) ++ numbers_line (bytes "now") (book.clock ∷ length (running_in book) ∷ []))
    (refused_line (refuse 9 0 0))
