use Rattle.std.proofs.lemmas.Result.{err_from_is_err_and}
use Rattle.engine_read.proofs.LineLaws.{length-refused, length-task, length-ticks, length-says}
use Rattle.engine_read.proofs.read_length.Goals as goal

pub returns-in_err-check_line : goal.returns-in_err-check_line
returns-in_err-check_line c =
    let p = err_from_is_err_and c.from_residual.result c.from_residual.ensures.1 in
    rw (p.1, p.2) (length-refused _ _ _ _ _ _ _ _ _ _ c.field-3.ensures c.field.ensures c.field-2.ensures c.word_fault.ensures c.read_task-task.ensures c.read_ranged-ticks.ensures c.err.ensures.value c.err-2.ensures.value c.end_fault.ensures _ c.in_err-check_line.ensures)

pub unwrap-requires : goal.unwrap-requires
unwrap-requires c = length-task _ _ _ _ _ _ _ _ _ _ c.field-3.ensures c.field.ensures c.field-2.ensures c.word_fault.ensures c.read_task-task.ensures c.read_ranged-ticks.ensures c.err.ensures.value c.err-2.ensures.value c.end_fault.ensures c.in_ok-check_line.ensures

pub unwrap-requires-2 : goal.unwrap-requires-2
unwrap-requires-2 c = length-ticks _ _ _ _ _ _ _ _ _ _ c.field-3.ensures c.field.ensures c.field-2.ensures c.word_fault.ensures c.read_task-task.ensures c.read_ranged-ticks.ensures c.err.ensures.value c.err-2.ensures.value c.end_fault.ensures c.in_ok-check_line.ensures

pub returns : goal.returns
returns c = length-says _ _ _ _ _ _ _ _ _ _ c.field-3.ensures c.field.ensures c.field-2.ensures c.word_fault.ensures c.read_task-task.ensures c.read_ranged-ticks.ensures c.err.ensures.value c.err-2.ensures.value c.end_fault.ensures c.in_ok-check_line.ensures c.unwrap.ensures c.unwrap-2.ensures
