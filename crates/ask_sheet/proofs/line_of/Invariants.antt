use Prim.Native.Nat.{◌≤◌}
use Rattle.ask_sheet.proofs.Lines.{LineTo}
use Rattle.ask_sheet.proofs.line_of.Given as goal

abbrev pub invariant-loop-k : goal.invariant-loop-k
invariant-loop-k l = (l.k ≤ 64) × LineTo l.k l.set l.line l.count
