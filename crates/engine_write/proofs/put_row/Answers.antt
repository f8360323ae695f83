use Rattle.log_write.proofs.WriteLaws.{wrote-line}
use Rattle.engine_write.proofs.put_row.Goals as goal

pub returns : goal.returns
returns c =
    wrote-line c.requires
    (rw c.from.ensures at c.put_line.ensures)
