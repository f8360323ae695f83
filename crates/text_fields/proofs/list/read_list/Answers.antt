use mathlib.Core.Path.{◌∙◌}
use Rattle.text_fields.proofs.Rise.{list-none, list-items}
use Rattle.text_fields.proofs.list.read_list.Goals as goal

pub returns-then-same : goal.returns-then-same
returns-then-same c = list-none _ _ _ _ c.same.ensures c.if-same.true

pub returns : goal.returns
returns c = c.read_items.ensures ∙ list-items _ _ _ _ c.same.ensures c.if-same.false
