use mathlib.Core.List.{[], ◌∷◌}
use Rattle.text_fields.specs.Items.{NONE}
use mathlib.Core.Path.{◌∙◌}
use Rattle.plan_write.specs.Private.WriteParts.{item_text}
use Rattle.plan_write.proofs.RunLaws.{one, two, all_left, next-room, put, turn, done_at, done, wrote-length}
use Rattle.plan_write.proofs.WriteLaws.{later_text, list-none, list-some, next-item, later-end}
use Rattle.plan_write.proofs.parts.put_items.Goals as goal

pub returns-in_default : goal.returns-in_default
returns-in_default c =
    done
    (put
    (all_left (NONE ∷ []) (list-none _ _ c.in_default.ensures.cases ∙ one _) c.requires)
    c.put_byte.ensures)

pub put_item-place-requires : goal.put_item-place-requires
put_item-place-requires c =
    next-room
    (all_left
    (item_text c.args.listed c.in-Some.first.now ∷ later_text (item_text c.args.listed) c.in-Some.others.now ∷ [])
    (list-some _ _ _ c.in-Some.ensures.cases.0 ∙ two _ _) c.requires)

pub loop-x-init : goal.loop-x-init
loop-x-init c =
    all_left _ (one _)
    (next-room
    (turn
    (all_left
    (item_text c.args.listed c.in-Some.first.now ∷ later_text (item_text c.args.listed) c.in-Some.others.now ∷ [])
    (list-some _ _ _ c.in-Some.ensures.cases.0 ∙ two _ _) c.requires)
    c.put_item-place.ensures))

pub put_next_item-place-requires : goal.put_next_item-place-requires
put_next_item-place-requires c =
    next-room
    (next-item (item_text c.args.listed) c.in-Some.others.now c.loop-x.x-index c.loop-x-test.true c.loop-x.invariant)

pub loop-x-preserved : goal.loop-x-preserved
loop-x-preserved c =
    turn
    (next-item (item_text c.args.listed) c.in-Some.others.now c.loop-x.x-index c.loop-x-test.true c.loop-x.invariant)
    c.put_next_item-place.ensures

pub returns : goal.returns
returns c =
    done
    (turn
    (turn
    (all_left
    (item_text c.args.listed c.in-Some.first.now ∷ later_text (item_text c.args.listed) c.in-Some.others.now ∷ [])
    (list-some _ _ _ c.in-Some.ensures.cases.0 ∙ two _ _) c.requires)
    c.put_item-place.ensures)
    (done_at (later-end _ _ _ c.loop-x-test.false) c.loop-x.invariant))

pub shape_of-out : goal.shape_of-out
shape_of-out c = wrote-length (returns c)
