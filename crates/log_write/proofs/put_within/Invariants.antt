use Prim.Native.Nat.{◌+◌, ◌*◌, ◌≤◌}
use lib.ListN.{drop}
use Rattle.log_write.proofs.WriteLaws.{Left, tabbed}
use Rattle.log_write.proofs.put_within.Given as goal

abbrev pub invariant-loop-number : goal.invariant-loop-number
invariant-loop-number l = (l.initial.place ≤ l.at + 7) × (l.place ≤ l.initial.place + 11 * l.number-index) × Left l.initial.out l.initial.place (tabbed l.end l.numbers) l.out l.place (tabbed l.end (drop l.number-index l.numbers))
