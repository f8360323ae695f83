-- What is said of a text written where the caller has seen that there is room.
use Rattle.std.specs.Prelude.{ℕ, ◌+◌, ◌≤◌, ◌≡◌, List, length}
use Rattle.std.proofs.lemmas.List.Edits.{sets}

-- the whole text stands in the bytes from a place on, r is the place after it, and it has at most so many bytes
pub record Wrote (out : List ℕ) (from : ℕ) (text : List ℕ) (most : ℕ) (written : List ℕ) (r : ℕ) : Type 0 where
  pub place : r ≡ from + length text
  pub bytes : written ≡ sets out from text
  pub small : length text ≤ most
