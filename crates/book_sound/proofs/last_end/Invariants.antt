use Rattle.plan.specs.Value.{at}
use Rattle.theory.specs.Book.{ended}
use Rattle.laws.specs.Picked.{latest}
use mathlib.Core.Path.{◌≡◌}
use Prim.Native.Nat.{◌≤◌}
use Rattle.book_sound.proofs.last_end.Given as goal

abbrev pub invariant-loop-j : goal.invariant-loop-j
invariant-loop-j l = (l.j ≤ l.book.plan.tasks) × (l.last ≡ latest l.j (ended (at l.book.mark.now)) (at l.book.end.now))
