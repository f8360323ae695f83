use Rattle.book_codes.proofs.EarlyLaws.{figure-none, figure-of}
use native.Mathlib.Omega.{arith}
use mathlib.Core.Path.{◌∙◌}
use borrow.Author.Rules.{rules}
use Rattle.book_codes.proofs.least_early.Goals as goal

pub returns-then-n-from : goal.returns-then-n-from
returns-then-n-from c = figure-none c.args.book.now c.places-n.ensures (search rules) (search rules) (omega arith)

pub returns : goal.returns
returns c = c.unwrap_or.ensures ∙ figure-of c.args.book.now c.places-n.ensures (omega arith) _ c.least_of.ensures
