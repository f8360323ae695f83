use Rattle.engine_read.proofs.NoteLaws.{Planned}
use Rattle.engine_read.proofs.planned.Given as goal

-- The places below i hold planned lengths.
abbrev pub invariant-loop-i : goal.invariant-loop-i
invariant-loop-i l = Planned l.begin l.finish l.i l.length
