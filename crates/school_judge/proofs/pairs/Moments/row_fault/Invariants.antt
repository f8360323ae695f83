use Rattle.school_judge.specs.Private.Moments.{is_against_in}
use Rattle.school_judge.proofs.PairLaws.{RowRest}
use Rattle.school_judge.proofs.pairs.Moments.row_fault.Given as goal

abbrev pub invariant-loop-b : goal.invariant-loop-b
invariant-loop-b l = RowRest l.self.tasks (is_against_in l.self) l.a l.b
