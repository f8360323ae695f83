use native.Mathlib.Omega.{arith}
use Rattle.log_write.proofs.WriteLaws.{nothing, wrote-length, wrote-line}
use Rattle.log_run.proofs.ReadLaws.{said-end, said-drop, said-refused}
use Rattle.log_run.proofs.ToldLaws.{named_end, named-drop}
use Rattle.log_run.proofs.told.put_lines.Goals as goal

pub put_ended-requires : goal.put_ended-requires
put_ended-requires c =
    let h = named_end (said-end c.in-Ok-End.is (rw c.in-Ok-End.is at c.in-Ok-End.field-0-is)) c.requires.1 in (h.0, h.1, h.2, omega (arith, c.requires.0))

pub overflow_sub-task : goal.overflow_sub-task
overflow_sub-task c = let h = named-drop (said-drop c.in-Ok-Drop.is (rw c.in-Ok-Drop.is at c.in-Ok-Drop.field-0-is)) c.requires.1 in omega (arith, h.0)

pub bounds-book-task : goal.bounds-book-task
bounds-book-task c = let h = named-drop (said-drop c.in-Ok-Drop.is (rw c.in-Ok-Drop.is at c.in-Ok-Drop.field-0-is)) c.requires.1 in omega (arith, h.0, h.1)

pub returns-in-Ok-End : goal.returns-in-Ok-End
returns-in-Ok-End c = rw (said-end c.in-Ok-End.is (rw c.in-Ok-End.is at c.in-Ok-End.field-0-is)) c.put_ended.ensures

pub shape_of-out-in-Ok-End : goal.shape_of-out-in-Ok-End
shape_of-out-in-Ok-End c = wrote-length (returns-in-Ok-End c)

pub returns-in-Ok-Drop : goal.returns-in-Ok-Drop
returns-in-Ok-Drop c =
    rw (said-drop c.in-Ok-Drop.is (rw c.in-Ok-Drop.is at c.in-Ok-Drop.field-0-is)) (wrote-line (omega (arith, c.requires.0)) c.put_drop.ensures)

pub shape_of-out-in-Ok-Drop : goal.shape_of-out-in-Ok-Drop
shape_of-out-in-Ok-Drop c = wrote-length (returns-in-Ok-Drop c)

pub returns-in-Err : goal.returns-in-Err
returns-in-Err c = rw (said-refused c.in-Err.is) (nothing _ _ 0)
