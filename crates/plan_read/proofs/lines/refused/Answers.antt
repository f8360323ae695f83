use mathlib.Core.Path.{ap}
use Rattle.plan.specs.declared.Plan.{Plan}
use Rattle.plan_read.proofs.lines.refused.Goals as goal

pub returns : goal.returns
returns c = ap (λ (p : Plan). record { answer = c.args.answer; plan = p }) c.zero_plan.ensures
