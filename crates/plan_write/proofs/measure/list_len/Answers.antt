use mathlib.Core.Path.{sym, ap}
use native.Mathlib.Omega.{arith}
use lib.ListN.{length}
use Rattle.plan_write.proofs.WriteLaws.{list-none, len-start, len-turn, len-end}
use Rattle.plan_write.proofs.measure.list_len.Goals as goal

pub returns-in_default : goal.returns-in_default
returns-in_default c =
    record { is = ap length (sym (list-none _ _ c.in_default.ensures.cases)); small = omega arith }

pub loop-x-init : goal.loop-x-init
loop-x-init c = (omega arith, omega arith, len-start _ _ _ c.in-Some.ensures.cases.0 c.item_len-n.ensures.is)

pub loop-x-preserved : goal.loop-x-preserved
loop-x-preserved c =
    (omega arith, omega arith, len-turn _ _ _ _ c.loop-x.invariant.2 c.loop-x-test.true c.item_len.ensures.is)

pub returns : goal.returns
returns c =
    record {
      is = len-end _ _ _ _ c.loop-x.invariant.2 c.loop-x-test.false;
      small = omega (arith, c.requires, c.in-Some.ensures.cases.1, c.loop-x.invariant.0, c.loop-x.invariant.1);
    }
