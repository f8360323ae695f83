use Rattle.cloverdusk.proofs.clover_read_lengths.Goals as goal

pub returns : goal.returns
returns c = rw c.read_lengths.ensures at c.handed_over.ensures
