use Rattle.year_write.proofs.ReportLaws.{ran-short, ran-nine, in_bounds, ran-alone, ran-past}
use Rattle.year_write.proofs.write_report.Goals as goal

-- `write_report` meets its contract: a short buffer, 9, the report with 28 behind it, the report alone.
pub returns-then-out-lt-REPORT_MOST : goal.returns-then-out-lt-REPORT_MOST
returns-then-out-lt-REPORT_MOST c = ran-short _ _ _ c.if-out-lt-REPORT_MOST.true

pub returns-then-not-are_in_bounds : goal.returns-then-not-are_in_bounds
returns-then-not-are_in_bounds c = let a = c.args in ran-nine a.totals a.past a.out.now c.if-out-lt-REPORT_MOST.false c.are_in_bounds.ensures c.if-not-are_in_bounds.true (rw c.answer.ensures at c.put_refused.ensures)

pub put_report-place-requires : goal.put_report-place-requires
put_report-place-requires c = let a = c.args in (c.if-out-lt-REPORT_MOST.false, in_bounds a.totals a.past a.out.now c.if-out-lt-REPORT_MOST.false c.are_in_bounds.ensures c.if-not-are_in_bounds.false)

pub returns-then-past : goal.returns-then-past
returns-then-past c = let a = c.args in ran-past a.totals a.past a.out.now c.if-out-lt-REPORT_MOST.false c.are_in_bounds.ensures c.if-not-are_in_bounds.false c.put_report-place.ensures c.if-past.true (rw c.answer-then-past.ensures at c.put_refused-then-past.ensures)

pub returns : goal.returns
returns c = let a = c.args in ran-alone a.totals a.past a.out.now c.if-out-lt-REPORT_MOST.false c.are_in_bounds.ensures c.if-not-are_in_bounds.false c.put_report-place.ensures c.if-past.false
