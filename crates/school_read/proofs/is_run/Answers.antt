use Rattle.school_read.proofs.FormLaws.{run-reads}
use native.Mathlib.Omega.{arith}
use Rattle.school_read.proofs.is_run.Goals as goal

pub is_ranged-of_tasks-requires : goal.is_ranged-of_tasks-requires
is_ranged-of_tasks-requires c = omega (arith, c.ranges.tasks, c.from-tasks.ensures)

pub returns : goal.returns
returns c = rw (c.from-boards.ensures, c.from-tasks.ensures) at (run-reads _ _ _ c.count_fields-count.ensures c.field.ensures c.same-run.ensures c.field-2.ensures c.same-first.ensures c.field-3.ensures c.same-second.ensures c.field-4.ensures c.same-clash.ensures c.field-5.ensures c.is_ranged-of_boards.ensures c.field-6.ensures c.is_ranged-of_tasks.ensures)
