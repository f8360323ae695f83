use native.Mathlib.Omega.{arith}
use Rattle.year_write.proofs.LineLaws.{short-wrote}
use Rattle.year_write.proofs.put_short.Goals as goal

pub returns : goal.returns
returns c = short-wrote (omega (arith, c.ranges.n)) (rw c.from.ensures at c.put_field.ensures)
