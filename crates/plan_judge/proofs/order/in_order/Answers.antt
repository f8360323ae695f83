use mathlib.Core.Path.{refl, sym, ◌∙◌}
use Rattle.laws.specs.Every.{every}
use Rattle.laws.proofs.Every.{every-not, every-pass, every-out}
use Rattle.plan_judge.proofs.order.in_order.Goals as goal

pub loop-k-init : goal.loop-k-init
unfolding every
loop-k-init c = refl

pub returns-then-not-row_in_order : goal.returns-then-not-row_in_order
returns-then-not-row_in_order c =
    sym (every-not _ _ _ c.loop-k-test.true (sym c.row_in_order.ensures ∙ c.if-not-row_in_order.true))

pub loop-k-preserved : goal.loop-k-preserved
loop-k-preserved c =
    every-pass _ _ c.loop-k.invariant (sym c.row_in_order.ensures ∙ c.if-not-row_in_order.false)

pub returns : goal.returns
returns c = every-out _ _ _ c.loop-k.invariant c.loop-k-test.false
