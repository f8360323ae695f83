use Prim.Native.Nat.{◌≤◌}
use mathlib.Core.Path.{◌≡◌}
use Rattle.std.specs.Prelude.{unwrap_or}
use Rattle.laws.specs.Private.Nonzero.{nonzero}
use Rattle.plan.specs.Value.{at}
use Rattle.ask_sheet.proofs.Lines.{FirstTo}
use Rattle.ask_sheet.proofs.first_of.Given as goal

abbrev pub invariant-loop-k : goal.invariant-loop-k
invariant-loop-k l =
    (l.k ≤ 64) × FirstTo (at l.begin) l.k l.set (unwrap_or l.first 0) × (l.first ≡ nonzero (unwrap_or l.first 0))
