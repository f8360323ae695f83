use mathlib.Core.Path.{◌≡◌, sym, ap, ◌∙◌}
use Prim.Native.Nat.{ℕ, ◌+◌}
use Rattle.std.specs.Prelude.{Option, Some, unwrap_or}
use Rattle.laws.specs.Private.Nonzero.{nonzero}
use Rattle.plan.specs.Value.{at}
use Rattle.ask_sheet.specs.Sheet.{sooner}
use Rattle.ask_sheet.proofs.Lines.{sooner-kept, some-above}
use Rattle.ask_sheet.proofs.sooner_of.Goals as goal

pub returns : goal.returns
returns c =
    let a = c.args in
    let n = c.in-Some.number in
    let u : unwrap_or a.first 0 ≡ n = ap (λ (o : Option ℕ). unwrap_or o 0) c.in-Some.is in
    let z : Some n ≡ nonzero n = sym c.in-Some.is ∙ c.requires.2 ∙ ap (λ (k : ℕ). nonzero k) u in
    sooner-kept (at a.begin.now) n a.k (some-above n z) (rw c.from-p.ensures at c.if-begin-k.false)
    ∙ ap (λ (x : ℕ). sooner (at a.begin.now) x (a.k + 1)) (sym u)
