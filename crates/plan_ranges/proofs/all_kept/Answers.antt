use mathlib.Core.Path.{refl, sym, ◌∙◌}
use Rattle.laws.specs.Every.{every}
use Rattle.laws.proofs.Every.{every-not, every-pass, every-out}
use Rattle.plan_ranges.proofs.all_kept.Goals as goal

pub loop-k-init : goal.loop-k-init
unfolding every
loop-k-init c = refl

pub returns-then-not-task_ok : goal.returns-then-not-task_ok
returns-then-not-task_ok c =
    sym (every-not _ _ _ c.loop-k-test.true (sym c.task_ok.ensures ∙ c.if-not-task_ok.true))

pub loop-k-preserved : goal.loop-k-preserved
loop-k-preserved c =
    every-pass _ _ c.loop-k.invariant (sym c.task_ok.ensures ∙ c.if-not-task_ok.false)

pub returns : goal.returns
returns c = every-out _ _ _ c.loop-k.invariant c.loop-k-test.false
