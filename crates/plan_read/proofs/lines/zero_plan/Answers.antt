use mathlib.Core.Path.{refl}
use Rattle.laws.specs.Each.{each, rows}
use Rattle.plan.specs.Value.{plan_of}
use Rattle.plan_read.proofs.lines.zero_plan.Goals as goal

pub returns : goal.returns
unfolding plan_of each rows
returns c = refl
