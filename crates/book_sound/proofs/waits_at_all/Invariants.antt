use Rattle.laws.specs.Bits.{has}
use Rattle.laws.specs.Every.{any}
use mathlib.Core.Path.{◌≡◌}
use Prim.Native.Nat.{◌≤◌}
use Rattle.book_sound.proofs.waits_at_all.Given as goal

abbrev pub invariant-loop-j : goal.invariant-loop-j
invariant-loop-j l = (l.j ≤ l.tasks) × (l.some ≡ any l.j (has l.awaited))
