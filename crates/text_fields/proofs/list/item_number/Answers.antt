use Rattle.text_fields.proofs.ItemLaws.{number-none, number-some}
use Rattle.text_fields.proofs.list.item_number.Goals as goal

pub returns-then-not-starts_item : goal.returns-then-not-starts_item
returns-then-not-starts_item c = number-none _ _ c.if-not-starts_item.ensures

pub returns : goal.returns
returns c = number-some _ _ c.if-not-starts_item.ensures c.digits_in.ensures c.read_number.ensures
