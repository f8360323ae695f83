use mathlib.Core.Path.{refl}
use Rattle.plan_ranges.proofs.ItemLaws.{rise-stop, rise-out, rise-fail, rise-pass}
use Rattle.plan_ranges.proofs.rises.Goals as goal

pub loop-x-init : goal.loop-x-init
loop-x-init c = refl

pub returns-then-x-eq0 : goal.returns-then-x-eq0
returns-then-x-eq0 c = rise-stop _ _ _ _ _ c.loop-x.invariant c.loop-x-test.true c.if-x-eq0.true

pub returns-then-not-last-k : goal.returns-then-not-last-k
returns-then-not-last-k c =
    rise-fail _ _ _ _ _ c.loop-x.invariant c.loop-x-test.true c.if-x-eq0.false c.key-k.ensures c.if-not-last-k.true

pub loop-x-preserved : goal.loop-x-preserved
loop-x-preserved c =
    rise-pass _ _ _ _ _ c.loop-x.invariant c.loop-x-test.true c.if-x-eq0.false c.key-k.ensures c.if-not-last-k.false

pub returns : goal.returns
returns c = rise-out _ _ _ _ _ c.loop-x.invariant c.loop-x-test.false
