use Rattle.plan.specs.Value.{at}
use Rattle.laws.specs.Bits.{has}
use Rattle.laws.specs.Picked.{latest}
use mathlib.Core.Path.{◌≡◌}
use Rattle.book_view.proofs.latest_end.Given as goal

abbrev pub invariant-loop-j : goal.invariant-loop-j
invariant-loop-j l = l.last ≡ latest l.j (has l.awaited) (at l.end)
