use mathlib.Core.List.{map}
use Rattle.text_fields.proofs.FaultLaws.{WorstFrom}
use Rattle.text_fields.proofs.faults.check_line.Given as goal

abbrev pub invariant-loop-kind : goal.invariant-loop-kind
invariant-loop-kind g l = WorstFrom l.kind-items (map g.C.Coded.code_of l.faults) l.kind-index
