use mathlib.Core.Path.{refl, sym, ◌∙◌}
use native.Mathlib.Omega.{arith}
use Rattle.plan.specs.View.{viewed}
use Rattle.plan.proofs.RefusalLaws.{has-number}
use Rattle.plan_judge.proofs.PairLaws.{pair-passed, pair_found, no-pair}
use Rattle.plan_judge.proofs.OrderLaws.{pair-in-order, passed_over}
use Rattle.plan_judge.proofs.pairs.row_fault.Goals as goal

pub loop-b-init : goal.loop-b-init
loop-b-init c = refl

pub pair_fault-requires : goal.pair_fault-requires
pair_fault-requires c =
    let low = c.requires.1 in
    let few = c.requires.0.few in (
      record {
        below_a = omega arith;
        below_b = omega arith;
        range_a = c.requires.0.range _ low;
        range_b = c.requires.0.range _ c.loop-b-test.true;
      },
      pair-in-order (viewed c.args.plan.now) c.requires.2 _ _ low c.loop-b-test.true,
    )

pub returns-in-Some : goal.returns-in-Some
returns-in-Some c =
    rw c.answer.ensures
    (pair_found _ _ _ _ c.loop-b.invariant c.loop-b-test.true c.in-Some.ensures (has-number c.in-Some.fault refl))

pub next_pair-b-requires : goal.next_pair-b-requires
next_pair-b-requires c = (c.requires.1, omega (arith, c.loop-b-test.true), c.requires.0.few)

pub loop-b-smaller : goal.loop-b-smaller
loop-b-smaller c = omega (arith, c.next_pair-b.ensures.onward, c.loop-b-test.true)

pub loop-b-preserved : goal.loop-b-preserved
loop-b-preserved c =
    passed_over (viewed c.args.plan.now) c.requires.2 _ _ _ c.requires.1
    (pair-passed _ _ _ _ c.loop-b.invariant c.loop-b-test.true (sym (rw c.in_default.is at c.pair_fault.ensures)))
    c.next_pair-b.ensures

pub returns : goal.returns
returns c = no-pair _ _ _ _ c.loop-b.invariant c.loop-b-test.false
