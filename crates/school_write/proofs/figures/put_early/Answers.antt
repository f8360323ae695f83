use native.Mathlib.Omega.{arith}
use Rattle.school_write.proofs.LineLaws.{early-late, early-soon}
use Rattle.school_write.proofs.figures.put_early.Goals as goal

pub returns-then-planned-tick : goal.returns-then-planned-tick
returns-then-planned-tick c = early-late _ _ c.requires c.if-planned-tick.true (omega (arith, c.ranges.tick)) c.put_byte-past_sign.ensures c.put_number.ensures

pub returns : goal.returns
returns c = early-soon _ _ c.requires c.if-planned-tick.false (omega (arith, c.ranges.planned)) c.put_number-2.ensures
