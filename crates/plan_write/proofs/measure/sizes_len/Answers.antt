use native.Mathlib.Omega.{arith}
use Rattle.plan_write.proofs.WriteLaws.{sizes-length}
use Rattle.plan_write.proofs.measure.sizes_len.Goals as goal

pub returns : goal.returns
returns c = omega (arith, sizes-length _ _ _ c.from-3.ensures c.from.ensures c.from-2.ensures)
