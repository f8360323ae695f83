use Rattle.book_waits.proofs.clash.clash_set.Goals as goal

pub returns : goal.returns
returns c = rw (c.rivals.ensures, c.holds_of.ensures, c.listed_set.ensures, c.after_of.ensures)
