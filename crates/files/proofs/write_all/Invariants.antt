-- What is left to write is never longer than the text; each write that goes on takes a byte of it.
use Rattle.std.proofs.Common.{length, ◌≤◌}
use Rattle.files.proofs.write_all.Given as goal

abbrev pub invariant-loop-rest : goal.invariant-loop-rest
invariant-loop-rest g l = length l.rest ≤ length l.text

abbrev pub decreases-loop-rest : goal.decreases-loop-rest
decreases-loop-rest g l = length l.rest
