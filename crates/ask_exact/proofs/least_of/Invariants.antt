use Rattle.ask_exact.specs.Step.{handed}
use Rattle.ask_exact.specs.Private.Step.{early_step}
use Rattle.theory.specs.Exact.{not_started}
use Rattle.laws.specs.Picked.{least}
use Rattle.book.specs.View.{book_view}
use mathlib.Core.Path.{◌≡◌}
use Prim.Native.Nat.{◌≤◌}
use Rattle.ask_exact.proofs.least_of.Given as goal

abbrev pub invariant-loop-i : goal.invariant-loop-i
invariant-loop-i l =
    (l.i ≤ l.n) × (l.found ≡ handed (least l.i (not_started (book_view l.book)) (early_step l.book l.waits l.ends l.n)))
