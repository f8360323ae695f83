use native.Mathlib.Omega.{arith}
use Rattle.desk_answers.proofs.DriveLaws.{after-wrote}
use Rattle.desk_answers.proofs.drive.put_after.Goals as goal

pub returns : goal.returns
returns c = after-wrote (omega (arith, c.ranges.n)) c.requires c.put_byte-next.ensures c.put_number.ensures
