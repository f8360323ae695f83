-- The array is always long enough for `write_judged`, so that its front is the whole text.
use Rattle.std.proofs.Common.{rules}
use Rattle.files.proofs.Fronts.{whole-front}
use Rattle.school.specs.Text.{judged_log}
use Rattle.judgelog.proofs.put_verdict.Goals as goal

pub returns : goal.returns
returns c = whole-front (judged_log c.args.plan.now c.args.log.now) _ (search rules) c.write_judged-length.ensures
