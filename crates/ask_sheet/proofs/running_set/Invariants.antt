use Prim.Native.Nat.{◌≤◌}
use mathlib.Core.Path.{◌≡◌}
use Rattle.laws.specs.Bits.{set_of}
use Rattle.theory.specs.Figure.{has_begun}
use Rattle.book_view.specs.Shown.{book_shown}
use Rattle.ask_sheet.proofs.running_set.Given as goal

abbrev pub invariant-loop-k : goal.invariant-loop-k
invariant-loop-k l = (l.k ≤ l.n) × (l.set ≡ set_of l.k (has_begun (book_shown l.book)))
