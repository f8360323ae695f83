use Rattle.plan_write.proofs.RunLaws.{two, all_left, next-room, put, turn, done}
use Rattle.plan_write.proofs.parts.put_list_field.Goals as goal

pub put_items-next-requires : goal.put_items-next-requires
put_items-next-requires c = next-room (all_left _ (two _ _) c.requires)

pub returns : goal.returns
returns c =
    done (put (turn (all_left _ (two _ _) c.requires) c.put_items-next.ensures) c.put_byte.ensures)
