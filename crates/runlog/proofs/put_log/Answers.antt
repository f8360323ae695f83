-- The array is always long enough for `run_log`, so that its front is the whole log.
use Rattle.std.proofs.Common.{rules}
use Rattle.files.proofs.Fronts.{whole-front}
use Rattle.log_run.specs.Log.{log_of}
use Rattle.runlog.proofs.put_log.Goals as goal

pub returns : goal.returns
returns c = whole-front (log_of c.args.plan.now c.args.ends.now) _ (search rules) c.run_log-length.ensures
