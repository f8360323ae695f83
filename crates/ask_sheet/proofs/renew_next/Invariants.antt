use Prim.Native.Nat.{◌≤◌}
use Rattle.ask_sheet.proofs.Turns.{NextTo}
use Rattle.ask_sheet.proofs.renew_next.Given as goal

abbrev pub invariant-loop-d : goal.invariant-loop-d
invariant-loop-d l = (l.d ≤ 32) × NextTo l.held l.was l.is l.begin l.initial.next l.d l.next
