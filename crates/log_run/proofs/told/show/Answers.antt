use Rattle.log_run.proofs.told.show.Goals as goal

pub returns : goal.returns
returns c = rw c.early_after-early.ensures
