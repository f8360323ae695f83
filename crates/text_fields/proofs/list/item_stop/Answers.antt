use native.Mathlib.Omega.{arith}
use Rattle.text.proofs.Spell.{stop_le}
use Rattle.text_fields.proofs.ItemLaws.{stop-none, stop-some, digits-short}
use Rattle.text_fields.proofs.list.item_stop.Goals as goal

pub returns-then-not-starts_item : goal.returns-then-not-starts_item
returns-then-not-starts_item c = stop-none _ _ c.if-not-starts_item.ensures

pub overflow_add-result : goal.overflow_add-result
overflow_add-result c =
    record {
      fits = omega (arith, stop_le c.digits_in.result.now, digits-short _ _ c.digits_in.ensures, c.number_stop-stop.ensures);
    }

pub returns-in-Holds : goal.returns-in-Holds
returns-in-Holds c =
    let h = stop-some _ _ c.if-not-starts_item.ensures c.digits_in.ensures c.number_stop-stop.ensures in rw c.in-Holds.is (rw c.in-Holds.is at h)

pub returns-in-Tasks : goal.returns-in-Tasks
returns-in-Tasks c =
    let h = stop-some _ _ c.if-not-starts_item.ensures c.digits_in.ensures c.number_stop-stop.ensures in
    let k = rw c.in-Tasks.is at h in
    rw c.in-Tasks.is (omega (arith, k))
