use Rattle.plan_write.proofs.RunLaws.{all_left, next-room, put, turn, done, wrote-length}
use Rattle.plan_write.proofs.WriteLaws.{task-text}
use Rattle.plan_write.proofs.parts.put_task.Goals as goal

pub put_numbers-numbers-requires : goal.put_numbers-numbers-requires
put_numbers-numbers-requires c =
    (c.requires.0, next-room (put (all_left _ (task-text _ _ _) c.requires.1) c.put_text-word.ensures))

pub put_list_field-next-requires : goal.put_list_field-next-requires
put_list_field-next-requires c =
    rw (c.part_before-held.ensures, c.holds_of.ensures)
    (next-room (turn (put (all_left _ (task-text _ _ _) c.requires.1) c.put_text-word.ensures) c.put_numbers-numbers.ensures))

pub put_list_field-requires : goal.put_list_field-requires
put_list_field-requires c =
    rw (c.part_before-after.ensures, c.after_of.ensures)
    (next-room
    (turn
    (turn (put (all_left _ (task-text _ _ _) c.requires.1) c.put_text-word.ensures) c.put_numbers-numbers.ensures)
    (rw (c.part_before-held.ensures, c.holds_of.ensures) at c.put_list_field-next.ensures)))

pub returns : goal.returns
returns c =
    done
    (turn
    (turn
    (turn (put (all_left _ (task-text _ _ _) c.requires.1) c.put_text-word.ensures) c.put_numbers-numbers.ensures)
    (rw (c.part_before-held.ensures, c.holds_of.ensures) at c.put_list_field-next.ensures))
    (rw (c.part_before-after.ensures, c.after_of.ensures) at c.put_list_field.ensures))

pub shape_of-out : goal.shape_of-out
shape_of-out c = wrote-length (returns c)
