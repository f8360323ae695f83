use Prim.Native.Nat.{◌+◌, ◌≤◌}
use mathlib.Core.Path.{◌≡◌}
use lib.ListN.{length, drop}
use lib.Seq.{sets}
use Rattle.text.proofs.put.put_text.Given as goal

-- the rest stored from where the copy stands gives the whole stored
abbrev pub invariant-loop-i : goal.invariant-loop-i
invariant-loop-i l =
    (l.at + length l.s ≤ length l.initial.out)
    × (length l.out ≡ length l.initial.out)
    × (sets l.out (l.at + l.i) (drop l.i l.s) ≡ sets l.initial.out l.at l.s)
