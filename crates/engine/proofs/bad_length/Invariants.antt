use Rattle.theory.proofs.Lowest.{lowest_from}
use Rattle.theory.specs.Times.{lowest, bad_length}
use Rattle.plan.specs.Value.{at}
use Rattle.book_view.specs.View.{plan_seen}
use mathlib.Core.List.{[]}
use mathlib.Core.Path.{◌≡◌}
use Rattle.engine.proofs.bad_length.Given as goal

abbrev pub invariant-loop-i : goal.invariant-loop-i
invariant-loop-i l =
    let bad = bad_length (plan_seen l.tasks [] l.plan.begin l.plan.finish []) (at l.given.length) (at l.given.dropped) in
    lowest_from l.i l.tasks bad ≡ lowest l.tasks bad
