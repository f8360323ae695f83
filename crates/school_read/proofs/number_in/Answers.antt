use mathlib.Core.Path.{◌∙◌}
use Rattle.school_read.proofs.PartLaws.{number-read}
use Rattle.school_read.proofs.number_in.Goals as goal

pub returns : goal.returns
returns c = c.ok.ensures.value ∙ number-read _ _ _ _ c.requires c.read_ranged.ensures
