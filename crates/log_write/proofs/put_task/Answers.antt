use borrow.Author.Tests.{le-leb}
use Rattle.log_write.proofs.put_task.Goals as goal

pub returns : goal.returns
returns c =
    rw (le-leb _ 7 c.requires, c.saturating_sub-early.ensures, c.from.ensures) at c.put_line.ensures
