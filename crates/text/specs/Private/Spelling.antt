-- How a number may begin.
use Rattle.std.specs.Prelude.{ℕ, Bool, not, ◌&&◌, List, length, get_or, eqb, ltb}

-- neither empty nor with a leading zero
unfoldable pub starts_well : List ℕ → Bool
starts_well s = not (eqb (length s) 0) && not (ltb 1 (length s) && eqb (get_or s 0 0) 48)
