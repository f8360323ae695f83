use Rattle.laws.specs.Bits.{set_of}
use Rattle.plan.specs.Value.{at}
use Rattle.theory.specs.Book.{ended}
use mathlib.Core.Bool.{not}
use mathlib.Core.Path.{◌≡◌}
use Prim.Native.Nat.{◌≤◌}
use Rattle.book_sound.proofs.unended_set.Given as goal

abbrev pub invariant-loop-j : goal.invariant-loop-j
invariant-loop-j l = (l.j ≤ l.book.plan.tasks) × (l.set ≡ set_of l.j (λ k. not (ended (at l.book.mark.now) k)))
