use mathlib.Core.Path.{◌≡◌}
use lib.ListN.{length}
use Rattle.desk_answers.proofs.ChainLaws.{Below}
use Rattle.desk_answers.proofs.chain.put_links.Given as goal

-- `put_links` meets its contract: the first links were written.
abbrev pub invariant-loop-task : goal.invariant-loop-task
invariant-loop-task l = (length l.out ≡ length l.initial.out) × Below l.book l.links l.task-index l.initial.out l.out l.place
