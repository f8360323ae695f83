use mathlib.Core.Path.{◌≡◌}
use lib.ListN.{length}
use Rattle.desk_start.specs.Start.{line_end}
use Rattle.desk_start.proofs.lines_end.Given as goal

-- No LF stands past the place.
abbrev pub invariant-loop-i : goal.invariant-loop-i
invariant-loop-i l = line_end l.ends l.i ≡ line_end l.ends (length l.ends)
