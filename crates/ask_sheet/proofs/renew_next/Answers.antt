use native.Mathlib.Omega.{arith}
use Prim.Native.Nat.{ℕ}
use mathlib.Core.Path.{sym, ap, ◌∙◌}
use Rattle.std.specs.Prelude.{Option, unwrap_or}
use Rattle.plan.specs.Value.{at}
use Rattle.ask_sheet.specs.Sheet.{soonest}
use Rattle.ask_sheet.specs.Sets.{members}
use Rattle.ask_sheet.proofs.Lines.{nonzero-number}
use Rattle.ask_sheet.proofs.Turns.{next_start, next-written, next-kept, next-end, moved-some, moved-none}
use Rattle.ask_sheet.proofs.renew_next.Goals as goal
use Rattle.ask_sheet.proofs.renew_next.Goals.{in-Some, in_default}

pub loop-d-init : goal.loop-d-init
loop-d-init c = (omega arith, next_start _ _ _ _ _)

pub loop-d-preserved : goal.loop-d-preserved
loop-d-preserved c =
    let inv = c.loop-d.invariant in
    elim c.match-moved.branch [
      | in-Some w ↦
          let to = moved-some _ _ _ (sym w.in-Some.is ∙ c.moved.ensures) in (
            omega arith,
            next-written _ _ _ _ _ _ inv.1 to.0
                (w.unwrap_or.ensures ∙ ap (λ (o : Option ℕ). unwrap_or o 0) w.first_of.ensures ∙ nonzero-number _ ∙ ap (λ (s : ℕ). soonest (at c.args.begin.now) 0 (members s)) to.1) w.next-is,
          )
      | in_default w ↦ (omega arith, next-kept _ _ _ _ _ _ inv.1 (moved-none _ _ _ (sym w.in_default.is ∙ c.moved.ensures)) w.next-is)
    ]

pub returns : goal.returns
returns c = next-end _ _ _ _ _ (omega arith) c.loop-d.invariant.1
