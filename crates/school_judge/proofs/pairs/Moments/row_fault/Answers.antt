use Rattle.school_judge.proofs.PairLaws.{both}
use native.Mathlib.Omega.{arith}
use Rattle.school_judge.specs.Private.Moments.{is_against_in}
use Rattle.school_judge.proofs.PairLaws.{row_first, row-turn, row-hit, row_out}
use Rattle.school_judge.proofs.pairs.Moments.row_fault.Goals as goal

pub loop-b-init : goal.loop-b-init
loop-b-init c = row_first c.args.self.now.tasks (is_against_in c.args.self.now) c.args.a

pub returns-then-is_sooner : goal.returns-then-is_sooner
returns-then-is_sooner c =
    row-hit c.args.self.now.tasks (is_against_in c.args.self.now) c.args.a c.loop-b.b c.loop-b.invariant (omega arith) (both c.is_sooner.ensures c.is_sooner-in-loop-b.ensures c.if-is_sooner.true) c.answer.ensures

pub loop-b-preserved : goal.loop-b-preserved
loop-b-preserved c =
    row-turn c.args.self.now.tasks (is_against_in c.args.self.now) c.args.a c.loop-b.b c.loop-b.invariant (omega arith) (both c.is_sooner.ensures c.is_sooner-in-loop-b.ensures c.if-is_sooner.false)

pub returns : goal.returns
returns c =
    row_out c.args.self.now.tasks (is_against_in c.args.self.now) c.args.a c.loop-b.b c.loop-b.invariant (omega arith)
