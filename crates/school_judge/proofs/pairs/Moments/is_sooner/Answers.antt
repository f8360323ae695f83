use native.Mathlib.Omega.{arith}
use lib.Dec.{ltb}
use Rattle.plan.specs.Value.{at}
use Rattle.school_judge.proofs.PairLaws.{own-bit}
use Rattle.school_judge.proofs.pairs.Moments.is_sooner.Goals as goal

pub returns : goal.returns
returns c = own-bit (at c.args.self.now.waits.now c.args.b) c.args.a (ltb (at c.args.self.now.start.now c.args.b) (at c.args.self.now.end.now c.args.a)) (omega arith) c.is_in.ensures
