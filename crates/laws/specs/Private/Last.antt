-- Of the numbers below n that w picks: who is last by a value.
use Rattle.std.specs.Prelude.{ℕ, zero, suc, ◌+◌, ◌-◌, Bool, cond, ◌||◌, eqb, ltb}

-- counted from 1, 0 being nobody: n + 1 where l is nobody or has a lesser f than n, else l
unfoldable pub later_of : (ℕ → ℕ) → ℕ → ℕ → ℕ
later_of f l n = cond (eqb l 0 || ltb (f (l - 1)) (f n)) (n + 1) l

-- counted from 1: the first of those picked that has the greatest f; 0 where none is
unfoldable pub last_of : ℕ → (ℕ → Bool) → (ℕ → ℕ) → ℕ
last_of zero w f = 0
last_of (suc n) w f = cond (w n) (later_of f (last_of n w f) n) (last_of n w f)
