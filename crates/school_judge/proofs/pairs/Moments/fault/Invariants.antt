use Rattle.school_judge.specs.Private.Moments.{is_against_in}
use Rattle.school_judge.proofs.PairLaws.{Rest}
use Rattle.school_judge.proofs.pairs.Moments.fault.Given as goal

abbrev pub invariant-loop-a : goal.invariant-loop-a
invariant-loop-a l = Rest l.self.tasks (is_against_in l.self) l.a
