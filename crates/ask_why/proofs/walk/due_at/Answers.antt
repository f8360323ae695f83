use Rattle.ask_why.proofs.WalkLaws.{latest-taken, latest-passed}
use Rattle.laws.specs.Picked.{latest}
use native.Mathlib.Omega.{arith}
use mathlib.Core.Path.{◌≡◌, refl, sym, ◌∙◌}
use Rattle.ask_why.proofs.walk.due_at.Goals as goal
use Rattle.ask_why.proofs.walk.due_at.Goals.{then-awaits, else-awaits}

pub loop-j-init : goal.loop-j-init
unfolding latest
loop-j-init c = (omega arith, refl)

pub loop-j-preserved : goal.loop-j-preserved
loop-j-preserved c =
    let inv = c.loop-j.invariant in
    elim c.if-awaits.branch [
      | then-awaits w ↦ (omega arith, w.last-is ∙ w.max-last.ensures ∙ latest-taken _ _ _ inv.1 (sym c.awaits.ensures ∙ w.if-awaits.true))
      | else-awaits w ↦ (omega arith, w.last-is ∙ latest-passed _ _ _ inv.1 (sym c.awaits.ensures ∙ w.if-awaits.false))
    ]

pub returns : goal.returns
returns c =
    let e : c.loop-j.j ≡ c.args.tasks = omega arith in rw e at c.loop-j.invariant.1
