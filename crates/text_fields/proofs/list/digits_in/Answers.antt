use Rattle.text_fields.proofs.ItemLaws.{digits-plain, digits-past}
use Rattle.text_fields.proofs.list.digits_in.Goals as goal

pub returns-in-Holds : goal.returns-in-Holds
returns-in-Holds c = rw c.in-Holds.is (digits-past _ c.past.ensures)

pub returns-in-Tasks : goal.returns-in-Tasks
returns-in-Tasks c = rw c.in-Tasks.is (digits-plain _)
