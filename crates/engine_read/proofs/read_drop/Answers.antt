use Rattle.std.proofs.lemmas.Result.{err_from_is_err_and}
use Rattle.engine_read.proofs.LineLaws.{drop-refused, drop-task, drop-says}
use Rattle.engine_read.proofs.read_drop.Goals as goal

pub returns-in_err-check_line : goal.returns-in_err-check_line
returns-in_err-check_line c =
    let p = err_from_is_err_and c.from_residual.result c.from_residual.ensures.1 in
    rw (p.1, p.2) (drop-refused _ _ _ _ _ _ _ _ c.field-2.ensures c.field.ensures c.word_fault.ensures c.read_task-task.ensures c.err.ensures.value c.end_fault.ensures _ c.in_err-check_line.ensures)

pub unwrap-requires : goal.unwrap-requires
unwrap-requires c = drop-task _ _ _ _ _ _ _ _ c.field-2.ensures c.field.ensures c.word_fault.ensures c.read_task-task.ensures c.err.ensures.value c.end_fault.ensures c.in_ok-check_line.ensures

pub returns : goal.returns
returns c = drop-says _ _ _ _ _ _ _ _ c.field-2.ensures c.field.ensures c.word_fault.ensures c.read_task-task.ensures c.err.ensures.value c.end_fault.ensures c.in_ok-check_line.ensures c.unwrap.ensures
