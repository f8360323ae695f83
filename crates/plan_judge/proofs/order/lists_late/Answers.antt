use mathlib.Core.Path.{sym, ◌∙◌}
use Rattle.plan_judge.proofs.ItemLaws.{search-stop, search-out, search-hit, search-pass}
use Rattle.plan_judge.proofs.order.lists_late.Goals as goal

pub returns-then-n-eq0 : goal.returns-then-n-eq0
returns-then-n-eq0 c = search-stop _ _ _ c.loop-n.invariant c.loop-n-test.true c.if-n-eq0.true

pub returns-then-is_late : goal.returns-then-is_late
returns-then-is_late c =
    search-hit _ _ _ c.loop-n.invariant c.loop-n-test.true c.if-n-eq0.false (sym c.is_late.ensures ∙ c.if-is_late.true)

pub loop-n-preserved : goal.loop-n-preserved
loop-n-preserved c =
    search-pass _ _ _ c.loop-n.invariant c.loop-n-test.true c.if-n-eq0.false (sym c.is_late.ensures ∙ c.if-is_late.false)

pub returns : goal.returns
returns c = search-out _ _ _ c.loop-n.invariant c.loop-n-test.false
