-- The exact figure of a book.
use Rattle.std.specs.Prelude.{cond}
use Rattle.std.proofs.Math.Option.{none}
use Rattle.theory.specs.Exact.{exact_early}
use Rattle.plan.specs.Answer.{refuse, granted}
use Rattle.plan.specs.declared.Answer.{Answer}
use Rattle.book.specs.View.{plan_view, book_view}
use Rattle.book.specs.Sound.{is_sound}
use Rattle.book.specs.declared.Book.{Book}
use Rattle.ask_exact.specs.Shown.{Early, shown}
use Rattle.ask_exact.specs.declared.Exact.{Exact}

abbrev pub answered : Answer → Early → Exact
answered answer figure = record { answer = answer; known = figure.known; early = figure.early }

-- 9, with "none", or the exact figure
unfoldable pub exact_of : Book → Exact
exact_of book =
    cond (is_sound book) (answered granted (shown (exact_early (plan_view book) (book_view book)))) (answered (refuse 9 0 0) (shown none))
