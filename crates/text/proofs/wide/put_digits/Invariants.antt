use Prim.Native.Nat.{◌≤◌}
use Rattle.text.proofs.Store.{DigitsLeft}
use Rattle.text.proofs.wide.put_digits.Given as goal

abbrev pub invariant-loop-i : goal.invariant-loop-i
invariant-loop-i l = (1 ≤ l.i) × DigitsLeft l.n l.out l.i l.rest
