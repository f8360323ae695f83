use Rattle.book_view.proofs.Turns.{bit-seen}
use Rattle.laws.specs.Picked.{latest}
use native.Mathlib.Omega.{arith}
use mathlib.Core.Path.{◌≡◌, refl, sym, ◌∙◌}
use Rattle.ask_exact.proofs.StepLaws.{latest-taken, latest-passed}
use Rattle.ask_exact.proofs.due_at.Goals as goal
use Rattle.ask_exact.proofs.due_at.Goals.{then-is_in, else-is_in}

pub loop-j-init : goal.loop-j-init
unfolding latest
loop-j-init c = (omega arith, refl)

pub loop-j-preserved : goal.loop-j-preserved
loop-j-preserved c =
    let inv = c.loop-j.invariant in
    let seen = bit-seen c.loop-j.j _ (omega arith) c.is_in.ensures in
    elim c.if-is_in.branch [
      | then-is_in w ↦ (omega arith, w.last-is ∙ w.max-last.ensures ∙ latest-taken _ _ _ inv.1 (sym seen ∙ w.if-is_in.true))
      | else-is_in w ↦ (omega arith, w.last-is ∙ latest-passed _ _ _ inv.1 (sym seen ∙ w.if-is_in.false))
    ]

pub returns : goal.returns
returns c =
    let e : c.loop-j.j ≡ c.args.tasks = omega arith in rw e at c.loop-j.invariant.1
