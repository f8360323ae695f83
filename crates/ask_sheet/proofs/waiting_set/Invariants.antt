use Prim.Native.Nat.{◌≤◌}
use mathlib.Core.Path.{◌≡◌}
use Rattle.laws.specs.Bits.{set_of}
use Rattle.ask_sheet.specs.Sheet.{is_waiting}
use Rattle.book_view.specs.Shown.{book_shown}
use Rattle.ask_sheet.proofs.waiting_set.Given as goal

abbrev pub invariant-loop-k : goal.invariant-loop-k
invariant-loop-k l = (l.k ≤ l.n) × (l.set ≡ set_of l.k (is_waiting (book_shown l.book)))
