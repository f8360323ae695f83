use Rattle.plan_ranges.proofs.shared_ok.Goals as goal

pub returns : goal.returns
returns c = rw c.has_shared.ensures
