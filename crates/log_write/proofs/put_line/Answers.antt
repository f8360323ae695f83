use Rattle.log_write.proofs.WriteLaws.{to-short}
use Rattle.log_write.proofs.put_line.Goals as goal

pub returns : goal.returns
returns c = rw to-short at c.put_line_to.ensures
