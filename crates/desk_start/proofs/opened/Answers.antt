use mathlib.Core.Path.{ap}
use Rattle.book.specs.declared.BookResult.{BookResult}
use Rattle.desk_start.proofs.opened.Goals as goal

pub returns : goal.returns
returns c = ap (λ (x : BookResult). x.book) c.open_book.ensures
