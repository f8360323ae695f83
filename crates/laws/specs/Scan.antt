-- A search for the first that stops it.
use Rattle.std.specs.Prelude.{ℕ, zero, suc, ◌-◌, Bool, cond}

module _ {A : Type 0} (stop : A → Bool) (otherwise : A) (f : ℕ → A) where
  -- the first of f k, f (k + 1), .., n of them, at which stop holds; otherwise where there is none
  unfoldable pub scan : ℕ → ℕ → A
  scan k zero = otherwise
  scan k (suc n) = let found = f k in let later = scan (suc k) n in cond (stop found) found later

  -- the same from f i up to, and not with, f n
  abbrev pub scan_to : ℕ → ℕ → A
  scan_to i n = scan i (n - i)
