use native.Mathlib.Omega.{arith}
use Rattle.std.proofs.lemmas.Result.{err_from_is_err_and}
use Rattle.engine_read.proofs.TaskLaws.{read_off, read_some, read-marked, read-new}
use Rattle.engine_read.proofs.read_task.Goals as goal

pub returns-in_err-task : goal.returns-in_err-task
returns-in_err-task c =
    let p = err_from_is_err_and c.from_residual.result c.from_residual.ensures.1 in
    rw (p.1, p.2) (read_off c.args.tasks c.args.marks.now c.args.field.now _ (rw c.from.ensures at c.in_err-task.ensures))

pub is_marked-requires : goal.is_marked-requires
is_marked-requires c = read_some c.args.tasks c.args.marks.now c.args.field.now (omega (arith, c.ranges.tasks)) (rw c.from.ensures at c.in_ok-task.ensures)

pub returns-then-is_marked : goal.returns-then-is_marked
returns-then-is_marked c =
    read-marked c.args.tasks c.args.marks.now c.args.field.now (omega (arith, c.ranges.tasks)) (rw c.from.ensures at c.in_ok-task.ensures)
    c.is_marked.ensures c.if-is_marked.true

pub returns : goal.returns
returns c =
    read-new c.args.tasks c.args.marks.now c.args.field.now (omega (arith, c.ranges.tasks)) (rw c.from.ensures at c.in_ok-task.ensures)
    c.is_marked.ensures c.if-is_marked.false
