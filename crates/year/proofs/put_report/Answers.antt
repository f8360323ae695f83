-- The array is always long enough for `write_report`, so that its front is the whole report.
use Rattle.std.proofs.Common.{rules}
use Rattle.files.proofs.Fronts.{whole-front}
use Rattle.year_write.specs.Report.{year_text}
use Rattle.year.proofs.put_report.Goals as goal

pub returns : goal.returns
returns c = whole-front (year_text c.args.past c.args.totals) _ (search rules) c.write_report-length.ensures
