use Rattle.year_write.proofs.ReportLaws.{report-wrote}
use Rattle.year_write.proofs.put_report.Goals as goal

pub returns : goal.returns
returns c = report-wrote c.args.totals c.put_logs-past_logs.ensures c.put_boards-past_boards.ensures c.all_tally.ensures c.put_all.ensures
