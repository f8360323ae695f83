use Rattle.laws.specs.Bits.{has}
use Rattle.laws.proofs.Gather.{SetFrom}
use Rattle.book_holders.specs.Holders.{rivals_on}
use Rattle.book_holders.proofs.Holders.rivals.Given as goal

abbrev pub invariant-loop-h : goal.invariant-loop-h
invariant-loop-h l = SetFrom 64 (λ j h. has (rivals_on l.self.held l.self.exclusive h) j) l.list l.h-index l.set
