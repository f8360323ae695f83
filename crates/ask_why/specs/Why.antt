-- Why did mine start then?
use Rattle.std.specs.Prelude.{ℕ, cond, []}
use Rattle.plan.specs.Answer.{refuse}
use Rattle.book.specs.View.{plan_view, book_view}
use Rattle.book.specs.Sound.{is_sound}
use Rattle.book.specs.declared.Book.{Book}
use Rattle.ask_why.specs.Chained.{chained, chain_for}
use Rattle.ask_why.specs.declared.Chain.{Chain}

-- 9 first; then 10 and 11, or the chain by the book's rule
unfoldable pub why_of : Book → ℕ → Chain
why_of book task = cond (is_sound book) (chain_for (plan_view book) (book_view book) task) (chained (refuse 9 0 0) [])
