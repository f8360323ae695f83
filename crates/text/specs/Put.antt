-- A text written into lent bytes: all of it where it fits, and otherwise nothing.
use Rattle.std.specs.Prelude.{ℕ, ◌+◌, ◌≤◌, ◌≡◌, cond, List, [], leb, length}
use Rattle.std.proofs.lemmas.List.Edits.{sets}

-- the place after the text, and the bytes after the writing
pub record Put (out : List ℕ) (at : ℕ) (text written : List ℕ) (r : ℕ) : Type 0 where
  pub place : r ≡ cond (leb (at + length text) (length out)) (at + length text) at
  pub bytes : written ≡ cond (leb (at + length text) (length out)) (sets out at text) out

-- a whole text is written from the first byte on, r is its length, and it has at most so many bytes
pub record Filled (most : ℕ) (out text written : List ℕ) (r : ℕ) : Type 0 where
  pub place : r ≡ length text
  pub bytes : written ≡ sets out 0 text
  pub small : length text ≤ most

-- what is written into a buffer of so many bytes: nothing where a text of `most` bytes would not fit
abbrev pub if_fits : ℕ → ℕ → List ℕ → List ℕ
if_fits most room text = cond (leb most room) text []
