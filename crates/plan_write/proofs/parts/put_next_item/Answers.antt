use mathlib.Core.List.{[], ◌∷◌}
use Rattle.text_fields.specs.Items.{COMMA}
use Rattle.plan_write.specs.Private.WriteParts.{item_text}
use Rattle.plan_write.proofs.RunLaws.{two, all_left, next-room, put, turn, done}
use Rattle.plan_write.proofs.parts.put_next_item.Goals as goal

pub put_item-requires : goal.put_item-requires
put_item-requires c =
    next-room
    (put (all_left ((COMMA ∷ []) ∷ item_text c.args.listed c.args.x ∷ []) (two (COMMA ∷ []) _) c.requires) c.put_byte-next.ensures)

pub returns : goal.returns
returns c =
    done
    (turn
    (put (all_left ((COMMA ∷ []) ∷ item_text c.args.listed c.args.x ∷ []) (two (COMMA ∷ []) _) c.requires) c.put_byte-next.ensures)
    c.put_item.ensures)
