use Prim.Native.Nat.{◌+◌, ◌≤◌}
use mathlib.Core.Path.{◌≡◌}
use lib.ListN.{length}
use Rattle.laws.specs.Digits.{digits_of}
use Rattle.text.proofs.wide.width.Given as goal

-- `width` meets its contract: the digits counted and those of the rest are one more than all.
abbrev pub invariant-loop-rest : goal.invariant-loop-rest
invariant-loop-rest l = (l.w + length (digits_of l.rest) ≡ length (digits_of l.n) + 1) × (l.w + l.rest ≤ l.n + 1)

abbrev pub decreases-loop-rest : goal.decreases-loop-rest
decreases-loop-rest l = l.rest
