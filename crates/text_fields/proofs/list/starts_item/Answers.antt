use Rattle.text_fields.proofs.ItemLaws.{starts-plain}
use Rattle.text_fields.proofs.list.starts_item.Goals as goal

pub returns-in-Holds : goal.returns-in-Holds
returns-in-Holds c = rw c.in-Holds.is c.starts_hold.ensures

pub returns-in-Tasks : goal.returns-in-Tasks
returns-in-Tasks c = rw c.in-Tasks.is (starts-plain _)
