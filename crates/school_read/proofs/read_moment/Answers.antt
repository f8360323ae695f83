use mathlib.Core.Path.{◌∙◌}
use Rattle.school_read.proofs.PartLaws.{number-least}
use Rattle.school_read.proofs.FormLaws.{moment-unended, moment-unearly, moment-no-task, moment-no-board, moment-no-tick, moment-said}
use Rattle.school_read.proofs.read_moment.Goals as goal
use Rattle.school_read.proofs.read_moment.Goals.{then-tick_field-from_tick-via-then-tick_field-from_tick, then-tick_field-from_tick-via-else-tick_field-from_tick+then-not-is_earliness}

pub returns-then-tick_field-from_tick : goal.returns-then-tick_field-from_tick
returns-then-tick_field-from_tick c =
    elim c.then-tick_field-from_tick.branch [
      | then-tick_field-from_tick-via-then-tick_field-from_tick w ↦ moment-unended _ _ _ _ _ _ _ c.part_before-task_field.ensures c.past-from_board.ensures c.part_before-board_field.ensures c.past-from_tick.ensures c.part_before-tick_field.ensures c.past-early.ensures _ _ w.if-tick_field-from_tick.true
      | then-tick_field-from_tick-via-else-tick_field-from_tick+then-not-is_earliness w ↦ moment-unearly _ _ _ _ _ _ _ c.part_before-task_field.ensures c.past-from_board.ensures c.part_before-board_field.ensures c.past-from_tick.ensures c.part_before-tick_field.ensures c.past-early.ensures _ _ w.is_earliness.ensures w.if-not-is_earliness.true
    ]

pub returns-in_err-task : goal.returns-in_err-task
returns-in_err-task c =
    c.from_residual.ensures ∙ moment-no-task _ _ _ _ _ _ _ c.part_before-task_field.ensures c.past-from_board.ensures c.part_before-board_field.ensures c.past-from_tick.ensures c.part_before-tick_field.ensures c.past-early.ensures _ _ (rw c.from.ensures at c.in_err-task.ensures)

pub overflow_sub-result : goal.overflow_sub-result
overflow_sub-result c = number-least _ _ _ c.in_ok-task.ensures

pub returns-in_err-board : goal.returns-in_err-board
returns-in_err-board c =
    c.from_residual-in_err-board.ensures ∙ moment-no-board _ _ _ _ _ _ _ c.part_before-task_field.ensures c.past-from_board.ensures c.part_before-board_field.ensures c.past-from_tick.ensures c.part_before-tick_field.ensures c.past-early.ensures _ _ (rw c.from-2.ensures at c.in_err-board.ensures)

pub returns-in_err-tick : goal.returns-in_err-tick
returns-in_err-tick c = c.from_residual-in_err-tick.ensures ∙ moment-no-tick _ _ _ _ _ _ _ c.part_before-task_field.ensures c.past-from_board.ensures c.part_before-board_field.ensures c.past-from_tick.ensures c.part_before-tick_field.ensures c.past-early.ensures _ _ c.in_err-tick.ensures

pub returns : goal.returns
returns c =
    moment-said _ _ _ _ _ _ _ c.part_before-task_field.ensures c.past-from_board.ensures c.part_before-board_field.ensures c.past-from_tick.ensures c.part_before-tick_field.ensures c.past-early.ensures _ _ c.if-tick_field-from_tick.false c.is_earliness.ensures c.if-not-is_earliness.false (rw c.from.ensures at c.in_ok-task.ensures) (rw c.from-2.ensures at c.in_ok-board.ensures) c.in_ok-tick.ensures
