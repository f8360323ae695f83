-- A report names a task and a tick, and hands back the book as it stands after it.
use Rattle.std.specs.Prelude.{ℕ, ◌-◌, not, cond, eqb}
use Rattle.theory.specs.Report.{report_code, from_one, next}
use Rattle.plan.specs.Answer.{refuse, granted, is_granted}
use Rattle.plan.specs.declared.Answer.{Answer}
use Rattle.book.specs.View.{plan_in, plan_view, book_view, lay_out}
use Rattle.book.specs.Sound.{is_sound}
use Rattle.book.specs.declared.Book.{Book}
use Rattle.book.specs.declared.BookResult.{BookResult}

-- the codes 10 to 15 by task number
unfoldable pub code_of : Book → ℕ → ℕ → ℕ
code_of book task tick = from_one (λ k. report_code (plan_view book) (book_view book) k tick) task

-- 9 to 15 as numbered; 10 to 15 say task and tick
unfoldable pub report_answer : Book → ℕ → ℕ → Answer
report_answer book task tick =
    cond (not (is_sound book)) (refuse 9 0 0)
    (cond (eqb (code_of book task tick) 0) granted (refuse (code_of book task tick) task tick))

-- the book after an accepted report of task k, from 0
unfoldable pub next_book : Book → ℕ → ℕ → Book
next_book book k tick = lay_out book.rule (plan_in book) (next (plan_view book) (book_view book) k tick)

-- a refused report gives the book it was given
unfoldable pub reported_of : Book → ℕ → ℕ → BookResult
reported_of book task tick =
    let answer = report_answer book task tick in
    record { answer = answer; book = cond (is_granted answer) (next_book book (task - 1) tick) book }
