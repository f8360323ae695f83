use Rattle.plan.specs.Value.{at}
use native.Mathlib.Omega.{arith}
use Rattle.book_view.proofs.Laid.{laid-first, laid_more}
use Rattle.school_judge.proofs.FoundLaws.{tick-is, tick-none, laid_out}
use Rattle.school_judge.proofs.lay.known_ticks.Goals as goal
use Rattle.school_judge.proofs.lay.known_ticks.Goals.{then-known-i-eq1, else-known-i-eq1}

pub loop-i-init : goal.loop-i-init
loop-i-init c = laid-first _

pub loop-i-preserved : goal.loop-i-preserved
loop-i-preserved c =
    elim c.if-known-i-eq1.branch [
      | then-known-i-eq1 w ↦ laid_more _ _ c.loop-i.invariant (tick-is w.if-known-i-eq1.true w.ticks-is)
      | else-known-i-eq1 w ↦ laid_more _ _ c.loop-i.invariant (tick-none (at c.args.noted.now.tick c.loop-i.i) w.if-known-i-eq1.false w.ticks-is)
    ]

pub returns : goal.returns
returns c = laid_out _ c.loop-i.i _ c.loop-i.invariant (omega arith) (omega arith)
