use mathlib.Core.Path.{◌≡◌}
use Rattle.plan_read.specs.Private.Editions.{edition_number, is_mended}
use Rattle.plan_read.proofs.TaskLaws.{Going}
use Rattle.plan_read.proofs.lines.read_tasks.Given as goal

-- What the lines so far made, and what the rest gives.
abbrev pub invariant-loop-k : goal.invariant-loop-k
invariant-loop-k l =
    (l.plan.edition ≡ edition_number l.sizes.edition) × (l.plan.boards ≡ l.sizes.boards) × (l.plan.tasks ≡ l.sizes.tasks)
    × Going (is_mended l.sizes.edition) l.text l.k l.plan.board l.plan.ready l.plan.begin l.plan.finish l.plan.holds l.plan.after l.rest
