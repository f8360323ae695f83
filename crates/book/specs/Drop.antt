-- A drop names a task whose student is absent.
use Rattle.std.specs.Prelude.{ℕ, ◌-◌, not, cond, eqb}
use Rattle.theory.specs.Report.{drop_code, from_one, drop_it}
use Rattle.plan.specs.Answer.{refuse, granted, is_granted}
use Rattle.plan.specs.declared.Answer.{Answer}
use Rattle.book.specs.View.{plan_in, plan_view, book_view, lay_out}
use Rattle.book.specs.Sound.{is_sound}
use Rattle.book.specs.declared.Book.{Book}
use Rattle.book.specs.declared.BookResult.{BookResult}

-- 10, then 19 if its start is known or it is already dropped, by task number
unfoldable pub drop_code_of : Book → ℕ → ℕ
drop_code_of book = from_one (drop_code (plan_view book) (book_view book))

-- 9, 10, then 19; 10 and 19 say task and 0
unfoldable pub drop_answer : Book → ℕ → Answer
drop_answer book task =
    cond (not (is_sound book)) (refuse 9 0 0)
    (cond (eqb (drop_code_of book task) 0) granted (refuse (drop_code_of book task) task 0))

-- the book after an accepted drop of task k, from 0
unfoldable pub dropped_in : Book → ℕ → Book
dropped_in book k = lay_out book.rule (plan_in book) (drop_it (book_view book) k)

-- a refused drop gives the book it was given
unfoldable pub dropped_of : Book → ℕ → BookResult
dropped_of book task =
    let answer = drop_answer book task in
    record { answer = answer; book = cond (is_granted answer) (dropped_in book (task - 1)) book }
