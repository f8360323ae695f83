-- The tests of the bounds, one after the other.
use Prim.Native.Nat.{ℕ, ◌+◌, ◌*◌}
use mathlib.Core.Path.{◌≡◌}
use mathlib.Core.Bool.{Bool, ◌&&◌}
use lib.Dec.{leb}
use Rattle.laws.specs.Every.{every}
use Rattle.year_rules.specs.Figures.{sum_of}
use Rattle.year_rules.specs.Totals.{board_ok, totals_ok}
use Rattle.year_rules.specs.declared.Totals.{Totals}

pub bounds-is :
    (totals : Totals) {a r e : ℕ} {b : Bool} → a ≡ totals.accepted → r ≡ totals.refused → e ≡ sum_of totals.ended
    → b ≡ every 8 (board_ok totals) → (leb (a + r) 10000 && (leb e (64 * a) && b)) ≡ totals_ok totals
unfolding totals_ok
bounds-is totals p q s t = rw (p, q, s, t)
