use Rattle.plan_judge.proofs.DriveLaws.{sets-clash}
use Rattle.plan_judge.proofs.drives.clash_by_drive.Goals as goal

pub returns : goal.returns
returns c =
    let pre = c.requires in
    sets-clash _ _ pre.range_a pre.range_b (rw c.holds_of.ensures at c.gather-these.ensures)
    (rw c.holds_of-2.ensures at c.gather-those.ensures)
