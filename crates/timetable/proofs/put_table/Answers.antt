-- The array is always long enough for `write_timetable`, so that its front is the whole text.
use Rattle.std.proofs.Common.{rules}
use Rattle.files.proofs.Fronts.{whole-front}
use Rattle.engine_write.specs.Table.{table_of}
use Rattle.timetable.proofs.put_table.Goals as goal

pub returns : goal.returns
returns c = whole-front (table_of c.args.plan.now c.args.lengths.now) _ (search rules) c.write_timetable-length.ensures
