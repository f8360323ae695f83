use Rattle.plan_write.proofs.RunLaws.{all_left, next-room, put, turn, done, wrote-length}
use Rattle.plan_write.proofs.WriteLaws.{sizes-text}
use Rattle.plan_write.proofs.parts.put_sizes.Goals as goal

pub put_number_field-first-requires : goal.put_number_field-first-requires
put_number_field-first-requires c =
    rw c.from.ensures (next-room (put (all_left _ (sizes-text _ _ _) c.requires) c.put_text-word.ensures))

pub put_number_field-second-requires : goal.put_number_field-second-requires
put_number_field-second-requires c =
    rw c.from-2.ensures
    (next-room
    (turn
    (put (all_left _ (sizes-text _ _ _) c.requires) c.put_text-word.ensures)
    (rw c.from.ensures at c.put_number_field-first.ensures)))

pub put_number_field-requires : goal.put_number_field-requires
put_number_field-requires c =
    rw c.from-3.ensures
    (next-room
    (turn
    (turn
    (put (all_left _ (sizes-text _ _ _) c.requires) c.put_text-word.ensures)
    (rw c.from.ensures at c.put_number_field-first.ensures))
    (rw c.from-2.ensures at c.put_number_field-second.ensures)))

pub returns : goal.returns
returns c =
    done
    (turn
    (turn
    (turn
    (put (all_left _ (sizes-text _ _ _) c.requires) c.put_text-word.ensures)
    (rw c.from.ensures at c.put_number_field-first.ensures))
    (rw c.from-2.ensures at c.put_number_field-second.ensures))
    (rw c.from-3.ensures at c.put_number_field.ensures))

pub shape_of-out : goal.shape_of-out
shape_of-out c = wrote-length (returns c)
