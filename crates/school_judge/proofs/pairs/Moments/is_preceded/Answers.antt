use Rattle.school_judge.proofs.PairLaws.{any_none, any-grow, any_out}
use native.Mathlib.Omega.{arith}
use lib.Dec.{ltb}
use mathlib.Core.Bool.{◌&&◌}
use Rattle.school_judge.proofs.PairLaws.{own-bit}
use Rattle.plan.specs.Value.{at}
use Rattle.laws.specs.Bits.{has}
use Rattle.school_judge.proofs.pairs.Moments.is_preceded.Goals as goal

pub loop-i-init : goal.loop-i-init
loop-i-init c = any_none _

pub loop-i-preserved : goal.loop-i-preserved
loop-i-preserved c = let i = c.loop-i.i in any-grow i (λ k. has (at c.args.self.now.waits.now k) c.args.j && ltb (at c.args.self.now.start.now k) c.args.tick) (own-bit (at c.args.self.now.waits.now i) c.args.j (ltb (at c.args.self.now.start.now i) c.args.tick) (omega arith) c.is_in.ensures) c.loop-i.invariant

pub returns : goal.returns
returns c = any_out _ c.loop-i.i _ c.loop-i.invariant (omega arith) (omega arith)
