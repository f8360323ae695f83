use mathlib.Core.Path.{◌≡◌}
use Rattle.laws.specs.Picked.{least}
use Rattle.theory.specs.Figure.{early_by, counts}
use Rattle.book_view.specs.Shown.{plan_shown, book_shown}
use Rattle.book_codes.specs.Private.Held.{held}
use Rattle.book_codes.proofs.least_of.Given as goal

abbrev pub invariant-loop-i : goal.invariant-loop-i
invariant-loop-i l = held l.least ≡ least l.i (counts (book_shown l.book)) (early_by (plan_shown l.book) (book_shown l.book))
