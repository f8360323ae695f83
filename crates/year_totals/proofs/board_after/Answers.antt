use mathlib.Core.Path.{◌≡◌, ◌∙◌}
use native.Mathlib.Omega.{arith}
use Rattle.year_totals.proofs.TallyLaws.{seen_none, seen-here, seen-there, roomy-here, roomy-there}
use Rattle.year_totals.proofs.board_after.Goals as goal
use Rattle.year_totals.proofs.board_after.Goals.{then-plan-i, else-plan-i}

pub loop-i-init : goal.loop-i-init
loop-i-init c =
    (record { ended = omega (arith, c.requires.1); sum = omega (arith, c.requires.2) }, seen_none c.args.held c.args.number c.args.plan.now.board c.args.plan.now.finish c.args.judged.now.end)

pub with_figure-tally-requires : goal.with_figure-tally-requires
with_figure-tally-requires c =
    let e = c.loop-i.invariant.0.ended in
    let s = c.loop-i.invariant.0.sum in
    (omega arith, omega arith)

pub loop-i-preserved : goal.loop-i-preserved
loop-i-preserved c =
    let l = c.loop-i in
    elim c.if-plan-i.branch [
      | then-plan-i w ↦ (roomy-here l.invariant.0 (omega arith) (w.tally-is ∙ w.with_figure-tally.ensures), seen-here _ _ _ _ _ l.i l.invariant.1 w.if-plan-i.true w.saturating_sub.ensures (w.tally-is ∙ w.with_figure-tally.ensures))
      | else-plan-i w ↦ (roomy-there l.invariant.0 w.tally-is, seen-there _ _ _ _ _ l.i l.invariant.1 w.if-plan-i.false w.tally-is)
    ]

pub returns : goal.returns
returns c = let e : c.loop-i.i ≡ c.args.plan.now.tasks = omega arith in rw e at c.loop-i.invariant.1
