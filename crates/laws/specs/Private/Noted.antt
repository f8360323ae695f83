-- A row of sets with one member more in some of them.
use Rattle.std.specs.Prelude.{ℕ, ◌^◌, Bool, cond, List, get_or}
use Rattle.std.specs.Int.Bits.{bit_or}
use Rattle.laws.specs.Each.{each}

-- k put into those of the first n sets that are picked
unfoldable pub noted : ℕ → (ℕ → Bool) → ℕ → List ℕ → List ℕ
noted n pick k l = each n (λ d. bit_or (get_or l d 0) (cond (pick d) (2 ^ k) 0)) l
