-- Walking a list that has its items first and 0 after the last: the four ways of a turn of a search.
use Prim.Native.Nat.{ℕ, ◌+◌, ◌≤◌, ◌<◌}
use mathlib.Core.Path.{◌≡◌}
use mathlib.Core.Bool.{Bool, true, false}
use mathlib.Core.List.{List}
use lib.ListN.{length, get_or, drop}
use Rattle.laws.specs.Lists.{any_of}
use Rattle.laws.specs.Split.{before}
use Rattle.laws.proofs.Split.{before_here, before-next, before-end}

module _ (p : ℕ → Bool) (l : List ℕ) (i : ℕ) {x : Bool} (rest : any_of p (before 0 (drop i l)) ≡ x) where
  pub search-stop : i < length l → get_or l i 0 ≡ 0 → false ≡ x
  unfolding any_of
  search-stop h e = rw (before_here 0 l i h e) at rest

  pub search-out : length l ≤ i → false ≡ x
  unfolding any_of
  search-out h = rw (before-end 0 l i h) at rest

  pub search-hit : i < length l → (get_or l i 0 ≡ 0 → ⊥) → p (get_or l i 0) ≡ true → true ≡ x
  unfolding any_of
  search-hit h n e = rw (before-next 0 l i h n, e) at rest

  pub search-pass : i < length l → (get_or l i 0 ≡ 0 → ⊥) → p (get_or l i 0) ≡ false → any_of p (before 0 (drop (i + 1) l)) ≡ x
  unfolding any_of
  search-pass h n e = rw (before-next 0 l i h n, e) at rest
