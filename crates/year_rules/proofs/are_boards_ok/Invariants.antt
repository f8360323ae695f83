use mathlib.Core.Path.{◌≡◌}
use mathlib.Core.Bool.{true}
use Rattle.laws.specs.Every.{every}
use Rattle.year_rules.specs.Totals.{board_ok}
use Rattle.year_rules.proofs.are_boards_ok.Given as goal

-- `are_boards_ok` meets its contract: all boards below b keep their bounds.
abbrev pub invariant-loop-b : goal.invariant-loop-b
invariant-loop-b l = every l.b (board_ok l.totals) ≡ true
