use Prim.Native.Nat.{ℕ}
use mathlib.Core.Path.{ap}
use Rattle.cloverdusk.specs.declared.LengthsResult.{LengthsResult}
use Rattle.cloverdusk.proofs.handed_over.Goals as goal

pub returns : goal.returns
returns c =
    let asked = c.args.asked in
    let by-rule : ℕ → LengthsResult = λ n. record { answer = asked.answer; rule = n; given = asked.given } in
    ap by-rule c.number_of.ensures
