-- Numbers as sets: d is in the set where bit d stands.
use Rattle.std.specs.Prelude.{ℕ, zero, suc, ◌/◌, ◌%◌, ◌^◌, Bool, cond, List, eqb, replicate}
use Rattle.std.specs.Int.Bits.{bit_or}
use Rattle.laws.specs.Each.{each}

-- bit d of a set
abbrev pub has : ℕ → ℕ → Bool
has bits d = eqb (bits / 2 ^ d % 2) 1

-- the set of those below n of which p holds
unfoldable pub set_of : ℕ → (ℕ → Bool) → ℕ
set_of zero p = 0
set_of (suc n) p = bit_or (set_of n p) (cond (p n) (2 ^ n) 0)

-- n sets: set d has those below k of which test d holds
abbrev pub sets_to : ℕ → ℕ → (ℕ → ℕ → Bool) → List ℕ
sets_to n k test = each n (λ d. set_of k (test d)) (replicate n 0)
