use Rattle.book.proofs.SkipLaws.{SkipTo}
use Prim.Native.Nat.{◌≤◌}
use Rattle.book.proofs.skip.skip_free.Given as goal

abbrev pub invariant-loop-n : goal.invariant-loop-n
invariant-loop-n l = (l.book.tasks ≤ 64) × SkipTo l.book.dropped l.last l.clock l.book.tasks l.initial.next l._n l.next
