use native.Mathlib.Omega.{arith}
use Rattle.plan_write.proofs.WriteLaws.{letter-length, plain-length}
use Rattle.plan_write.proofs.measure.item_len.Goals as goal

pub returns-in-Holds : goal.returns-in-Holds
returns-in-Holds c = omega (arith, letter-length _ _ c.in-Holds.is c.from.ensures)

pub returns-in-Tasks : goal.returns-in-Tasks
returns-in-Tasks c = omega (arith, plain-length _ _ c.in-Tasks.is c.from-in-Tasks.ensures)
