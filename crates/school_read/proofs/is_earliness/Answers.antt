use mathlib.Core.Path.{sym, ◌∙◌}
use borrow.Author.Tests.{eqb-true, eqb-false}
use Rattle.school_read.proofs.PartLaws.{early-none, early-late, early-soon}
use Rattle.school_read.proofs.is_earliness.Goals as goal

-- `is_earliness` meets its contract: each return by the tests that led there.
pub returns-then-is_empty : goal.returns-then-is_empty
returns-then-is_empty c = early-none _ (eqb-true _ 0 (sym c.is_empty.ensures ∙ c.if-is_empty.true))

pub returns-then-field-eq45 : goal.returns-then-field-eq45
returns-then-field-eq45 c = early-late _ c.if-field-eq45.true (eqb-false _ 0 (sym c.is_empty.ensures ∙ c.if-is_empty.false)) c.past.ensures c.is_ranged.ensures

pub returns : goal.returns
returns c = early-soon _ c.if-field-eq45.false (eqb-false _ 0 (sym c.is_empty.ensures ∙ c.if-is_empty.false)) c.is_ranged-2.ensures
