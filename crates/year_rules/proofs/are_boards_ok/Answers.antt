use mathlib.Core.Path.{refl, sym, ◌∙◌}
use native.Mathlib.Omega.{arith}
use Rattle.laws.specs.Every.{every}
use Rattle.laws.proofs.Every.{every-pass, every-out, every-not}
use Rattle.year_rules.proofs.are_boards_ok.Goals as goal

pub loop-b-init : goal.loop-b-init
unfolding every
loop-b-init c = refl

pub returns-then-not-is_board_ok : goal.returns-then-not-is_board_ok
returns-then-not-is_board_ok c =
    let e = rw c.tally.ensures at c.is_board_ok.ensures in
    sym (every-not 8 _ c.loop-b.b (omega arith) (sym e ∙ c.if-not-is_board_ok.true))

pub loop-b-preserved : goal.loop-b-preserved
loop-b-preserved c =
    let e = rw c.tally.ensures at c.is_board_ok.ensures in
    every-pass c.loop-b.b _ c.loop-b.invariant (sym e ∙ c.if-not-is_board_ok.false)

pub returns : goal.returns
returns c = every-out _ c.loop-b.b _ c.loop-b.invariant (omega arith)
