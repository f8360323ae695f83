use mathlib.Core.Path.{refl}
use native.Mathlib.Omega.{arith}
use Rattle.text_fields.specs.Items.{COMMA}
use Rattle.text_fields.specs.Private.Lettered.{lettered, is_item}
use Rattle.text.proofs.Parts.{after_less, past-part, part-within}
use Rattle.text_fields.proofs.ItemLaws.{item-stop-le}
use Rattle.text_fields.proofs.Rise.{parts_next, refused-three, refused-four, refused-next}
use Rattle.text_fields.proofs.list.list_fault.Goals as goal

pub loop-rest-init : goal.loop-rest-init
loop-rest-init c = (omega arith, refl, omega arith)

pub overflow_add-result : goal.overflow_add-result
overflow_add-result c =
    record {
      fits = omega (
        arith,
        item-stop-le (lettered c.args.listed) c.part_before-part.result.now,
        part-within COMMA _ _ c.part_before-part.ensures,
        c.loop-rest.invariant.0,
        c.item_stop.ensures,
      );
    }

pub returns-then-not-is_item : goal.returns-then-not-is_item
returns-then-not-is_item c =
    refused-three _ _ _ _ c.part_before-part.ensures c.loop-rest.invariant.0 c.loop-rest.invariant.1 c.loop-rest.invariant.2
    c.if-not-is_item.ensures c.item_stop.ensures

pub returns-then-part-rest : goal.returns-then-part-rest
returns-then-part-rest c =
    refused-four _ _ _ _ c.part_before-part.ensures c.loop-rest.invariant.0 c.loop-rest.invariant.1 c.loop-rest.invariant.2
    c.if-not-is_item.ensures c.if-part-rest.true

pub loop-rest-smaller : goal.loop-rest-smaller
loop-rest-smaller c =
    after_less COMMA _ _ c.part_before-part.ensures _ c.if-part-rest.false (past-part COMMA _ _ c.part_before-part.ensures _ c.past-rest.ensures)

pub loop-rest-preserved : goal.loop-rest-preserved
loop-rest-preserved c =
    let part = c.part_before-part.ensures in
    let inv = c.loop-rest.invariant in
    let next = past-part COMMA _ _ part _ c.past-rest.ensures in
    let less = after_less COMMA _ _ part _ c.if-part-rest.false next in (
      omega (arith, less, inv.0),
      parts_next (is_item _) _ _ _ part inv.1 _ c.if-not-is_item.ensures c.if-part-rest.false next,
      refused-next _ _ _ _ part inv.0 inv.1 inv.2 c.if-not-is_item.ensures c.if-part-rest.false next less,
    )
