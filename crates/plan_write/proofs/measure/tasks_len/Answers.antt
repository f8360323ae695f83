use mathlib.Core.Path.{refl}
use native.Mathlib.Omega.{arith}
use Rattle.text.specs.Line.{lines_below}
use Rattle.plan.specs.Value.{task_at}
use Rattle.plan.specs.View.{viewed}
use Rattle.plan_write.proofs.WriteLaws.{texts-length, all-length}
use Rattle.plan_write.proofs.measure.tasks_len.Goals as goal

pub loop-k-init : goal.loop-k-init
unfolding lines_below
loop-k-init c = (omega arith, omega arith, refl)

pub loop-k-preserved : goal.loop-k-preserved
loop-k-preserved c = (
  omega arith,
  omega arith,
  omega
      (arith, texts-length c.args.plan.now.edition (task_at (viewed c.args.plan.now)) c.loop-k.k),
)

pub returns : goal.returns
returns c = record { is = all-length _ _ c.loop-k.invariant.0 c.loop-k-test.false c.loop-k.invariant.2; small = omega arith }
