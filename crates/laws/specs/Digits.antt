-- The decimal digits of a number, as bytes, and the number that digits say.
use Rattle.std.specs.Prelude.{ℕ, zero, suc, ◌+◌, ◌-◌, ◌*◌, ◌/◌, ◌%◌, true, false, List, [], ◌∷◌, ◌++◌, ltb}

-- the digits of n, first digit first; the first number bounds the turns and is above n
unfoldable pub digits_from : ℕ → ℕ → List ℕ
digits_from zero n = []
digits_from (suc f) n =
    elim (ltb n 10) [ true ↦ (48 + n) ∷ [] | false ↦ digits_from f (n / 10) ++ ((48 + n % 10) ∷ []) ]

-- the digits of n
unfoldable pub digits_of : ℕ → List ℕ
digits_of n = digits_from (suc n) n

-- the number that the digits of s say, read after the number a
unfoldable pub value_after : ℕ → List ℕ → ℕ
value_after a [] = a
value_after a (b ∷ s) = value_after (a * 10 + (b - 48)) s
