use Rattle.std.proofs.Common.{◌≡◌, ◌+◌, take}
use lib.Dec.{eqb}
use Rattle.std.specs.List.{count_by}
use Rattle.text.specs.Line.{TAB}
use Rattle.text.proofs.part.count_fields.Given as goal

-- one more than the tabs passed
abbrev pub invariant-loop-b : goal.invariant-loop-b
invariant-loop-b l = l.n ≡ count_by (λ b. eqb b TAB) (take l.b-index l.line) + 1
