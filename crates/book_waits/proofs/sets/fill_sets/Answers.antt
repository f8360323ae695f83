use native.Mathlib.Omega.{arith}
use Rattle.plan.specs.View.{viewed}
use Rattle.book_waits.proofs.SetLaws.{early-waits, clash-waits}
use Rattle.book_waits.proofs.sets.fill_sets.Goals as goal

pub early_sets-requires : goal.early_sets-requires
early_sets-requires c = let pre = c.requires in (pre.1.range.few, pre.0)

pub clash_sets-requires : goal.clash_sets-requires
clash_sets-requires c = let pre = c.requires in (pre.1.range.few, pre.1.on)

pub returns-then-rule-ne0 : goal.returns-then-rule-ne0
returns-then-rule-ne0 c =
    clash-waits (viewed c.args.plan.now) c.requires.1 c.early_sets.ensures c.args.rule c.if-rule-ne0.true c.clash_sets.ensures

pub returns-else-rule-ne0 : goal.returns-else-rule-ne0
returns-else-rule-ne0 c =
    early-waits (viewed c.args.plan.now) c.requires.1 c.early_sets.ensures c.args.rule (omega (arith, c.if-rule-ne0.false))
