-- The lengths of a plan's and a book's arrays, which each that a function takes or hands out has.
use Rattle.std.specs.Prelude.{◌≡◌, length}
pub use Rattle.plan.specs.Words.Sized.{SizedPlan}
use Rattle.book.specs.View.{plan_in}
use Rattle.book.specs.declared.Book.{Book}

pub record Sized (book : Book) : Type 0 where
  pub plan : SizedPlan (plan_in book)
  pub start : length book.start ≡ 64
  pub end : length book.end ≡ 64
  pub mark : length book.mark ≡ 64
  pub dropped : length book.dropped ≡ 64
