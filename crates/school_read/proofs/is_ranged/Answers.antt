use Rattle.school_read.proofs.PartLaws.{number-fine}
use Rattle.school_read.proofs.is_ranged.Goals as goal

pub returns : goal.returns
returns c = number-fine _ _ _ c.number_in.ensures c.is_some.ensures
