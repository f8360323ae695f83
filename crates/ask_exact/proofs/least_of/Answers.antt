use Rattle.ask_exact.proofs.StepLaws.{least-first, least-taken, least-passed}
use native.Mathlib.Omega.{arith}
use mathlib.Core.Path.{◌≡◌, sym, ◌∙◌}
use Rattle.ask_exact.proofs.least_of.Goals as goal
use Rattle.ask_exact.proofs.least_of.Goals.{then-not_started, else-not_started}

pub loop-i-init : goal.loop-i-init
loop-i-init c = (omega arith, least-first _ _)

pub loop-i-preserved : goal.loop-i-preserved
loop-i-preserved c =
    let inv = c.loop-i.invariant in
    elim c.if-not_started.branch [
      | then-not_started w ↦ (omega arith, w.found-is ∙ rw (w.min.ensures, w.unwrap_or.ensures, w.early_at-this.ensures) (least-taken _ _ _ inv.1 (sym c.not_started.ensures ∙ w.if-not_started.true)))
      | else-not_started w ↦ (omega arith, w.found-is ∙ least-passed _ _ _ inv.1 (sym c.not_started.ensures ∙ w.if-not_started.false))
    ]

pub returns : goal.returns
returns c =
    let e : c.loop-i.i ≡ c.args.n = omega arith in rw e at c.loop-i.invariant.1
