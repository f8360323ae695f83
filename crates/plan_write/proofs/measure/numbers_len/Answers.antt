use Prim.Native.Nat.{◌+◌}
use native.Mathlib.Omega.{arith}
use Rattle.plan.specs.Value.{task_at}
use Rattle.plan.specs.View.{viewed}
use Rattle.plan_write.proofs.WriteLaws.{numbers-length}
use Rattle.plan_write.proofs.measure.numbers_len.Goals as goal

pub returns : goal.returns
returns c =
    omega
    (arith, rw c.from.ensures at c.number_len-2.ensures.is, numbers-length c.args.plan.now.edition (c.args.k + 1) (task_at (viewed c.args.plan.now) c.args.k))
