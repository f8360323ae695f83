use mathlib.Core.Path.{refl}
use Rattle.plan_judge.proofs.ItemLaws.{search-stop, search-out, search-hit, search-pass}
use borrow.Author.Tests.{eq-eqb, ne_eqb}
use Rattle.plan.specs.Pairs.{is_listed}
use Rattle.plan_judge.proofs.pairs.is_listed.Goals as goal

pub loop-n-init : goal.loop-n-init
unfolding is_listed
loop-n-init c = refl

pub returns-then-n-eq0 : goal.returns-then-n-eq0
returns-then-n-eq0 c = search-stop _ _ _ c.loop-n.invariant c.loop-n-test.true c.if-n-eq0.true

pub returns-then-number-n : goal.returns-then-number-n
returns-then-number-n c =
    search-hit _ _ _ c.loop-n.invariant c.loop-n-test.true c.if-n-eq0.false (eq-eqb _ _ c.if-number-n.true)

pub loop-n-preserved : goal.loop-n-preserved
loop-n-preserved c = search-pass _ _ _ c.loop-n.invariant c.loop-n-test.true c.if-n-eq0.false (ne_eqb _ _ c.if-number-n.false)

pub returns : goal.returns
returns c = search-out _ _ _ c.loop-n.invariant c.loop-n-test.false
