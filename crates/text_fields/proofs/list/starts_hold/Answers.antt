use mathlib.Core.Path.{sym, ◌∙◌}
use borrow.Author.Tests.{eqb-true, eqb-false}
use Rattle.text_fields.proofs.ItemLaws.{starts-none, starts-letter}
use Rattle.text_fields.proofs.list.starts_hold.Goals as goal

pub returns-then-is_empty : goal.returns-then-is_empty
returns-then-is_empty c = starts-none _ (eqb-true _ 0 (sym c.is_empty.ensures ∙ c.if-is_empty.true))

pub returns : goal.returns
returns c = starts-letter _ (eqb-false _ 0 (sym c.is_empty.ensures ∙ c.if-is_empty.false))
