use Rattle.school_write.proofs.LineLaws.{verdict-accepted, verdict-refused}
use Rattle.school_write.proofs.put_verdict.Goals as goal

pub returns-then-answer-eq0 : goal.returns-then-answer-eq0
returns-then-answer-eq0 c = verdict-accepted c.args.answer c.requires c.if-answer-eq0.true c.put_text.ensures

pub returns : goal.returns
returns c = verdict-refused c.args.answer c.requires c.if-answer-eq0.false c.put_refused.ensures
