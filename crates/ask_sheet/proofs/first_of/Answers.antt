use native.Mathlib.Omega.{arith}
use mathlib.Core.Path.{◌≡◌, refl, sym, ap, ◌∙◌}
use Prim.Native.Nat.{ℕ, ◌+◌}
use Rattle.std.specs.Prelude.{Option, unwrap_or}
use Rattle.laws.specs.Private.Nonzero.{nonzero}
use Rattle.plan.specs.Value.{at}
use Rattle.ask_sheet.specs.Sheet.{sooner}
use Rattle.ask_sheet.proofs.Lines.{first-start, first_taken, first-passed, sooner-some}
use Rattle.ask_sheet.proofs.first_of.Goals as goal
use Rattle.ask_sheet.proofs.first_of.Goals.{else-is_in, then-is_in}

pub loop-k-init : goal.loop-k-init
loop-k-init c = (omega arith, first-start _ _, refl)

pub sooner_of-requires : goal.sooner_of-requires
sooner_of-requires c = (omega arith, omega (arith, c.loop-k.invariant.1.low), c.loop-k.invariant.2)

pub loop-k-preserved : goal.loop-k-preserved
loop-k-preserved c =
    let inv = c.loop-k.invariant in
    let seen = c.is_in.ensures in
    let k = c.loop-k.k in
    let f : ℕ → ℕ = at c.args.begin.now in
    let last : ℕ = unwrap_or c.loop-k.first 0 in
    elim c.if-is_in.branch [
      | then-is_in w ↦
          let said : w.sooner_of.result ≡ sooner f last (k + 1) = w.sooner_of.ensures in
          let is : unwrap_or c.if-is_in.first 0 ≡ sooner f last (k + 1) = ap (λ (o : Option ℕ). unwrap_or o 0) w.first-is ∙ said in
          (omega arith, first_taken f k c.args.set inv.1 (omega arith) seen w.if-is_in.true is, w.first-is ∙ sooner-some f last k said ∙ ap (λ (o : Option ℕ). nonzero (unwrap_or o 0)) (sym w.first-is))
      | else-is_in w ↦
          (omega arith, first-passed f k c.args.set inv.1 (omega arith) seen w.if-is_in.false (ap (λ (o : Option ℕ). unwrap_or o 0) w.first-is), w.first-is ∙ inv.2 ∙ ap (λ (o : Option ℕ). nonzero (unwrap_or o 0)) (sym w.first-is))
    ]

pub returns : goal.returns
returns c =
    let e : c.loop-k.k ≡ 64 = omega arith in
    c.loop-k.invariant.2 ∙ ap (λ (k : ℕ). nonzero k) (rw e at c.loop-k.invariant.1.is)
