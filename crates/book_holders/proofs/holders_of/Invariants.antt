use Prim.Native.Nat.{◌+◌, ◌≤◌}
use mathlib.Core.Path.{◌≡◌}
use Rattle.laws.specs.Bits.{sets_to}
use Rattle.book_holders.specs.Holders.{holds_drive, keeps_drive}
use Rattle.book_holders.proofs.holders_of.Given as goal

abbrev pub invariant-loop-k : goal.invariant-loop-k
invariant-loop-k l =
    (l.k ≤ 64) × (l.held ≡ sets_to 32 l.k (λ d. holds_drive l.holds (d + 1))) × (l.exclusive ≡ sets_to 32 l.k (λ d. keeps_drive l.holds (d + 1)))
