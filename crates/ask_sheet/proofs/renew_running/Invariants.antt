use Prim.Native.Nat.{◌≤◌}
use Rattle.ask_sheet.proofs.Turns.{RunTo}
use Rattle.ask_sheet.proofs.renew_running.Given as goal

abbrev pub invariant-loop-d : goal.invariant-loop-d
invariant-loop-d l = (l.d ≤ 32) × RunTo l.held l.was l.is l.initial.running l.d l.running
