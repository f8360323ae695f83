use native.Mathlib.Omega.{arith}
use Rattle.year_write.proofs.LineLaws.{field-wrote}
use Rattle.year_write.proofs.put_field.Goals as goal

pub returns : goal.returns
returns c = field-wrote (omega (arith, c.ranges.n)) c.requires c.put_byte-next.ensures c.put_wide.ensures
