use Rattle.text_fields.proofs.ItemLaws.{item-some, item-plain, item-shared, item-alone}
use Rattle.text_fields.proofs.list.item_of.Goals as goal

pub bounds-part-0 : goal.bounds-part-0
bounds-part-0 c = item-some _ (rw c.in-Holds.is at c.requires.2)

pub returns-in-Holds : goal.returns-in-Holds
returns-in-Holds c = rw c.in-Holds.is (item-shared _ _ (rw c.in-Holds.is at c.requires.1) c.if-part-eq115.true)

pub returns-in-Holds-2 : goal.returns-in-Holds-2
returns-in-Holds-2 c = rw c.in-Holds-2.is (item-alone _ _ (rw c.in-Holds-2.is at c.requires.1) c.if-part-eq115.false)

pub returns-in-Tasks : goal.returns-in-Tasks
returns-in-Tasks c = rw c.in-Tasks.is (item-plain _ _ (rw c.in-Tasks.is at c.requires.1))
