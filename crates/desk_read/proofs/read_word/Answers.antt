use Rattle.desk_read.proofs.ReadLaws.{alone-is}
use Rattle.desk_read.proofs.read_word.Goals as goal

pub returns : goal.returns
returns c = alone-is c.args.line.now c.args.word.now _ c.field.ensures _ c.word_fault.ensures _ c.end_fault.ensures c.check_line.ensures
