-- Of the numbers below n that w picks: how many.
use Rattle.std.specs.Prelude.{ℕ, zero, suc, ◌+◌, Bool, cond}

unfoldable pub count : ℕ → (ℕ → Bool) → ℕ
count zero w = 0
count (suc n) w = cond (w n) 1 0 + count n w
