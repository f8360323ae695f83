use borrow.Author.Rules.{rules}
use mathlib.Core.Path.{sym, ◌∙◌, refl}
use native.Mathlib.Omega.{arith}
use lib.ListN.{length-set}
use Rattle.text_fields.specs.Items.{COMMA}
use Rattle.text_fields.specs.Private.Lettered.{is_item}
use Rattle.text.proofs.Parts.{after_less, past-part}
use Rattle.text_fields.proofs.ItemLaws.{number-spelt, value-item, value-is, over-is, item-digits}
use Rattle.text_fields.proofs.Rise.{items-start, all-spelt, refused-is, refuse, keep-last, keep-more, refuse-over, passed, first_passes, parts_next, parts-end}
use Rattle.text_fields.proofs.list.read_items.Goals as goal

pub loop-n-init : goal.loop-n-init
loop-n-init c = (omega arith, omega arith, search rules, refl, items-start _ _ _ _)

pub returns-in_default : goal.returns-in_default
returns-in_default c =
    let part = c.part_before-part.ensures in
    c.list_fault.ensures
    ∙ refused-is _ _ _
    (λ t.
    let spelt = first_passes (is_item _) _ _ part (c.loop-n.invariant.3 ∙ t) in
    let over = over-is _ (item-digits _ _ spelt) (number-spelt _ _ spelt c.in_default.ensures) in
    refuse _ _ _ _ _ _ _ _ _ _ part refl c.loop-n.invariant.4 (refuse-over _ _ _ c.requires over))

pub returns-then-n-last : goal.returns-then-n-last
returns-then-n-last c =
    let part = c.part_before-part.ensures in
    let spelt = value-item _ _ c.in-Ok.ensures in
    c.list_fault-then-n-last.ensures
    ∙ refused-is _ _ _
    (λ t. refuse _ _ _ _ _ _ _ _ _ _ part (value-is _ _ _ (number-spelt _ _ spelt c.in-Ok.ensures)) c.loop-n.invariant.4 c.if-n-last.true)

pub item_of-requires : goal.item_of-requires
item_of-requires c =
    let spelt = value-item _ _ c.in-Ok.ensures in
    let p = passed c.loop-n.last c.args.high _ c.if-n-last.false in (
      omega arith,
      value-is _ _ _ (number-spelt _ _ spelt c.in-Ok.ensures),
      spelt,
    )

pub bounds-items-count : goal.bounds-items-count
bounds-items-count c =
    let p = passed c.loop-n.last c.args.high _ c.if-n-last.false in omega arith

pub returns-then-part-rest : goal.returns-then-part-rest
returns-then-part-rest c =
    let part = c.part_before-part.ensures in
    let spelt = value-item _ _ c.in-Ok.ensures in
    keep-last _ _ _ _ _ _ _ _ _ _ part
    (value-is _ _ _ (number-spelt _ _ spelt c.in-Ok.ensures))
    c.loop-n.invariant.4
    _
    c.if-n-last.false
    c.item_of.ensures
    c.if-part-rest.true
    ∙ all-spelt _ _ _ (sym (parts-end (is_item _) _ _ _ part c.loop-n.invariant.3 (sym spelt) c.if-part-rest.true))

pub loop-n-smaller : goal.loop-n-smaller
loop-n-smaller c =
    let part = c.part_before-part.ensures in
    after_less COMMA _ _ part _ c.if-part-rest.false (past-part COMMA _ _ part _ c.past-rest.ensures)

pub loop-n-preserved : goal.loop-n-preserved
loop-n-preserved c =
    let part = c.part_before-part.ensures in
    let spelt = value-item _ _ c.in-Ok.ensures in
    let next = past-part COMMA _ _ part _ c.past-rest.ensures in
    let p = passed c.loop-n.last c.args.high _ c.if-n-last.false in (
      omega arith,
      p.1,
      simp length-set c.loop-n.invariant.2,
      parts_next (is_item _) _ _ _ part c.loop-n.invariant.3 _ (sym spelt) c.if-part-rest.false next,
      keep-more _ _ _ _ _ _ _ _ _ _ part
          (value-is _ _ _ (number-spelt _ _ spelt c.in-Ok.ensures))
          c.loop-n.invariant.4
          _
          _
          c.if-n-last.false
          c.item_of.ensures
          c.if-part-rest.false
          next,
    )
