use Rattle.school_read.proofs.FormLaws.{three-is}
use Rattle.school_read.proofs.three_ticks.Goals as goal

pub returns : goal.returns
returns c = three-is _ _ _ c.part_before-first.ensures c.past-others.ensures c.is_ranged.ensures c.two_ticks.ensures
