use Rattle.laws.proofs.Gather.{SetFrom}
use Rattle.book_waits.proofs.ListLaws.{named}
use Rattle.book_waits.proofs.listed.listed_set.Given as goal

abbrev pub invariant-loop-n : goal.invariant-loop-n
invariant-loop-n l = SetFrom 64 named l.list l.n-index l.set
