use native.Mathlib.Omega.{arith}
use Rattle.text.proofs.Store.{put-none, put-stored}
use Rattle.text.proofs.wide.put_wide.Goals as goal

pub returns-then-not-has_room : goal.returns-then-not-has_room
returns-then-not-has_room c = put-none _ _ _ (rw c.width-w.ensures at c.if-not-has_room.ensures)

pub returns : goal.returns
returns c = let w = c.width-w.ensures in rw w (put-stored _ _ _ _ _ (rw w at c.if-not-has_room.ensures) (omega arith) c.put_digits.ensures)
