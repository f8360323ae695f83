-- The array is always long enough for `convert_text`, so that its front is the whole answer.
use Rattle.std.proofs.Common.{rules}
use Rattle.files.proofs.Fronts.{whole-front}
use Rattle.plan_convert.specs.Renewed.{renewed_text}
use Rattle.convert.proofs.put_converted.Goals as goal

pub returns : goal.returns
returns c = whole-front (renewed_text c.args.plan.now) _ (search rules) c.convert_text-length.ensures
