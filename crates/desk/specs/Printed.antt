-- What is printed and kept for a line.
use Rattle.std.specs.Prelude.{ℕ, ◌≡◌, List, take}
use Rattle.desk_turns.specs.Turns.{Turned}
use Rattle.desk_turns.specs.declared.Turn.{Turn}

-- the first bytes of the buffer are what the line's turn says, and the rest of the turn is handed on
pub record TurnIs (turned : Turned) (written : List ℕ) (r : Turn) : Type 0 where
  pub morning : r.morning ≡ turned.morning
  pub keeps : r.keeps ≡ turned.keeps
  pub front : take r.length written ≡ turned.says
