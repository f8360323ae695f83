use native.Mathlib.Omega.{arith}
use Prim.Native.Nat.{ℕ}
use mathlib.Core.Path.{sym, ap, ◌∙◌}
use Rattle.ask_sheet.specs.Sheet.{eight}
use Rattle.ask_sheet.specs.Sets.{members}
use Rattle.ask_sheet.proofs.Turns.{run-start, run-written, run-kept, run_end, moved-some, moved-none}
use borrow.Author.Rules.{rules}
use Rattle.ask_sheet.proofs.renew_running.Goals as goal
use Rattle.ask_sheet.proofs.renew_running.Goals.{in-Some, in_default}

pub loop-d-init : goal.loop-d-init
loop-d-init c = (omega arith, run-start _ _ _ _ (search rules))

pub loop-d-preserved : goal.loop-d-preserved
loop-d-preserved c =
    let inv = c.loop-d.invariant in
    elim c.match-moved.branch [
      | in-Some w ↦
          let to = moved-some _ _ _ (sym w.in-Some.is ∙ c.moved.ensures) in
          (omega arith, run-written _ _ _ _ _ (omega arith) inv.1 to.0 (w.line_of.ensures ∙ ap (λ (s : ℕ). eight (members s)) to.1) w.put_text.ensures w.running-is)
      | in_default w ↦ (omega arith, run-kept _ _ _ _ _ (omega arith) inv.1 (moved-none _ _ _ (sym w.in_default.is ∙ c.moved.ensures)) w.running-is)
    ]

pub returns : goal.returns
returns c = run_end _ _ _ _ (omega arith) c.loop-d.invariant.1
