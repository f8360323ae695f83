use mathlib.Core.Path.{sym, ◌∙◌}
use Rattle.text.proofs.Spell.{number-no, number-rest}
use Rattle.text.proofs.decimal.is_number.Goals as goal

pub returns-then-not-starts_well : goal.returns-then-not-starts_well
returns-then-not-starts_well c = number-no _ (sym c.if-not-starts_well.ensures)

pub returns : goal.returns
returns c = c.all_digits.ensures ∙ number-rest _ (sym c.if-not-starts_well.ensures)
