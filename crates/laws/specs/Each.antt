-- Lists filled place by place, and row by row.
use Rattle.std.specs.Prelude.{ℕ, zero, suc, ◌*◌, List, set}
use Rattle.std.proofs.lemmas.List.Edits.{sets}

module _ {A : Type 0} where
  -- the list l with f i at every place i below n
  unfoldable pub each : ℕ → (ℕ → A) → List A → List A
  each zero f l = l
  each (suc n) f l = set (each n f l) n (f n)

  -- the list l with the row f i from place width * i on, for every i below n
  unfoldable pub rows : ℕ → ℕ → (ℕ → List A) → List A → List A
  rows width zero f l = l
  rows width (suc n) f l = sets (rows width n f l) (width * n) (f n)
