use mathlib.Core.Path.{◌∙◌}
use Rattle.plan_read.proofs.SizesLaws.{size-ok}
use Rattle.plan_read.proofs.fields.size.Goals as goal

pub returns : goal.returns
returns c = c.ok.ensures.value ∙ size-ok _ _ _ c.requires _ c.read_ranged.ensures
