use Rattle.school_read.proofs.FormLaws.{two_is}
use Rattle.school_read.proofs.two_ticks.Goals as goal

pub returns : goal.returns
returns c = two_is _ _ _ c.part_before-first.ensures c.past-second.ensures c.is_ranged.ensures c.is_ranged-2.ensures
