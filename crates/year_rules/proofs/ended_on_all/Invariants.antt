use Prim.Native.Nat.{◌+◌, ◌*◌, ◌≤◌}
use mathlib.Core.Path.{◌≡◌}
use lib.ListN.{drop}
use Rattle.year_rules.specs.Figures.{sum_of}
use Rattle.year_rules.proofs.ended_on_all.Given as goal

-- `ended_on_all` meets its contract: what was added and the rest of the list come to the whole.
abbrev pub invariant-loop-x : goal.invariant-loop-x
invariant-loop-x l = (l.all ≤ 4294967296 * l.x-index) × (l.all + sum_of (drop l.x-index l.ended) ≡ sum_of l.ended)
