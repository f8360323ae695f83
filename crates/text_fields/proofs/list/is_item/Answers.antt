use mathlib.Core.Path.{◌∙◌}
use Rattle.text_fields.proofs.ItemLaws.{item-none, item-more}
use Rattle.text_fields.proofs.list.is_item.Goals as goal

pub returns-then-starts_item : goal.returns-then-starts_item
returns-then-starts_item c = item-more _ _ c.if-starts_item.ensures c.digits_in.ensures c.is_number.ensures

pub returns-else-starts_item : goal.returns-else-starts_item
returns-else-starts_item c = c.if-starts_item.false ∙ item-none _ _ c.if-starts_item.ensures
