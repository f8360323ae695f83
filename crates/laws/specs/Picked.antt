-- Of the numbers below n that w picks: the latest and the least of a value.
use Rattle.std.specs.Prelude.{ℕ, zero, suc, max, min, Bool, cond}
use Rattle.std.proofs.Math.Option.{Option, none, some}

-- the greatest e of those picked; 0 where none is
unfoldable pub latest : ℕ → (ℕ → Bool) → (ℕ → ℕ) → ℕ
latest zero w e = 0
latest (suc n) w e = max (latest n w e) (cond (w n) (e n) 0)

-- the least f of those picked, if one is
unfoldable pub least : ℕ → (ℕ → Bool) → (ℕ → ℕ) → Option ℕ
least zero w f = none
least (suc n) w f = cond (w n) (some (elim (least n w f) [ none ↦ f n | some v ↦ min v (f n) ])) (least n w f)
