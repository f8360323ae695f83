use Rattle.plan_write.proofs.RunLaws.{all_left, next-room, turn, done, wrote-length}
use Rattle.plan_write.proofs.WriteLaws.{numbers-text}
use Rattle.plan_write.proofs.parts.put_numbers.Goals as goal

pub put_number_field-first-requires : goal.put_number_field-first-requires
put_number_field-first-requires c = next-room (all_left _ (numbers-text _ _ _) c.requires.1)

pub put_number_field-second-requires : goal.put_number_field-second-requires
put_number_field-second-requires c =
    rw c.from.ensures (next-room (turn (all_left _ (numbers-text _ _ _) c.requires.1) c.put_number_field-first.ensures))

pub put_ready-third-requires : goal.put_ready-third-requires
put_ready-third-requires c =
    next-room (turn (turn (all_left _ (numbers-text _ _ _) c.requires.1) c.put_number_field-first.ensures) (rw c.from.ensures at c.put_number_field-second.ensures))

pub put_number_field-fourth-requires : goal.put_number_field-fourth-requires
put_number_field-fourth-requires c =
    next-room (turn (turn (turn (all_left _ (numbers-text _ _ _) c.requires.1) c.put_number_field-first.ensures) (rw c.from.ensures at c.put_number_field-second.ensures)) c.put_ready-third.ensures)

pub put_number_field-requires : goal.put_number_field-requires
put_number_field-requires c =
    next-room (turn (turn (turn (turn (all_left _ (numbers-text _ _ _) c.requires.1) c.put_number_field-first.ensures) (rw c.from.ensures at c.put_number_field-second.ensures)) c.put_ready-third.ensures) c.put_number_field-fourth.ensures)

pub returns : goal.returns
returns c =
    done (turn (turn (turn (turn (turn (all_left _ (numbers-text _ _ _) c.requires.1) c.put_number_field-first.ensures) (rw c.from.ensures at c.put_number_field-second.ensures)) c.put_ready-third.ensures) c.put_number_field-fourth.ensures) c.put_number_field.ensures)

pub shape_of-out : goal.shape_of-out
shape_of-out c = wrote-length (returns c)
