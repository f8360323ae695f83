use mathlib.Core.Path.{◌≡◌}
use Rattle.desk_start.specs.Start.{walk_in}
use Rattle.desk_start.proofs.walk.Given as goal

-- `walk` meets its contract: what the lines left give is what the whole gives.
abbrev pub invariant-loop-line : goal.invariant-loop-line
invariant-loop-line l = walk_in l.book l.line-iterator.rest.now ≡ walk_in l.initial.book l.text
