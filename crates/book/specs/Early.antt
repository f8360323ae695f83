-- The minimum-early figure of a book.
use Rattle.std.specs.Prelude.{cond}
use Rattle.theory.specs.Figure.{minimum_early}
use Rattle.plan.specs.Answer.{refuse, granted}
use Rattle.book.specs.View.{plan_view, book_view}
use Rattle.book.specs.Sound.{is_sound}
use Rattle.book.specs.declared.Book.{Book}
use Rattle.book.specs.declared.Figure.{Figure}

-- 9, with 0, or M
unfoldable pub figure_of : Book → Figure
figure_of book =
    cond (is_sound book) (record { answer = granted; early = minimum_early (plan_view book) (book_view book) })
    (record { answer = refuse 9 0 0; early = 0 })
