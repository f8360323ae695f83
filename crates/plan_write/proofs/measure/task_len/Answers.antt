use Prim.Native.Nat.{◌+◌}
use native.Mathlib.Omega.{arith}
use Rattle.plan.specs.Value.{task_at}
use Rattle.plan.specs.View.{viewed}
use Rattle.plan_write.proofs.WriteLaws.{few-items, task-length}
use Rattle.plan_write.proofs.measure.task_len.Goals as goal

pub list_len-held-requires : goal.list_len-held-requires
list_len-held-requires c =
    rw (c.part_before.ensures, c.holds_of.ensures) (few-items 32 c.args.k c.args.plan.now.holds.now (omega arith))

pub list_len-after-requires : goal.list_len-after-requires
list_len-after-requires c =
    rw (c.part_before-2.ensures, c.after_of.ensures) (few-items 64 c.args.k c.args.plan.now.after.now (omega arith))

pub returns : goal.returns
returns c =
    omega (
      arith,
      c.numbers_len-numbers.ensures.is,
      rw (c.part_before.ensures, c.holds_of.ensures) at c.list_len-held.ensures.is,
      rw (c.part_before-2.ensures, c.after_of.ensures) at c.list_len-after.ensures.is,
      task-length c.args.plan.now.edition (c.args.k + 1) (task_at (viewed c.args.plan.now) c.args.k),
    )
