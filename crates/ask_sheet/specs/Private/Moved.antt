-- The holders of a drive that have moved.
use Rattle.std.specs.Prelude.{ℕ, cond, eqb, Option, Some, None}
use Rattle.std.specs.Int.Bits.{bit_and}

-- of a drive's holders those in a set now; none where they are those in the set before
abbrev pub moved_to : ℕ → ℕ → ℕ → Option ℕ
moved_to held was is = cond (eqb (bit_and held was) (bit_and held is)) None (Some (bit_and held is))
