-- Keys that rise from a given one.
use Rattle.std.specs.Prelude.{ℕ, List, [], ◌∷◌, Bool, true, ◌&&◌, leb, ltb}

-- each key is above the one before, the first above last, and none above high
unfoldable pub rises_from : (ℕ → ℕ) → ℕ → ℕ → List ℕ → Bool
rises_from key high last [] = true
rises_from key high last (x ∷ l) = (ltb last (key x) && leb (key x) high) && rises_from key high (key x) l
