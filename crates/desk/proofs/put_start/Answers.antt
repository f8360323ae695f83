-- The array is always long enough for `begin`, so that its front is the whole log.
use Rattle.std.proofs.Common.{rules}
use Rattle.desk.proofs.DeskLaws.{start-within, start-printed}
use Rattle.desk.proofs.put_start.Goals as goal

pub returns-clause-prefix_len : goal.returns-clause-prefix_len
returns-clause-prefix_len c = start-within c.args.plan.now c.args.ends.now _ (search rules) c.begin.ensures

pub returns-clause-value : goal.returns-clause-value
returns-clause-value c = start-printed c.args.plan.now c.args.ends.now _ (search rules) c.begin.ensures
