use Rattle.log_write.proofs.RunLaws.{run-early, run-clash}
use Rattle.log_write.proofs.put_run.Goals as goal

pub returns-then-rule-eq0 : goal.returns-then-rule-eq0
returns-then-rule-eq0 c = run-early _ _ _ c.if-rule-eq0.true (rw (c.from.ensures, c.from-then-rule-eq0.ensures) at c.put_line.ensures)

pub returns : goal.returns
returns c = run-clash _ _ _ c.if-rule-eq0.false (rw (c.from-2.ensures, c.from-3.ensures) at c.put_line_to.ensures)
