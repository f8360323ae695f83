-- The leftmost field of a code.
use Rattle.std.specs.Prelude.{ℕ, cond, List, eqb, Option, Some, None}
use Rattle.laws.specs.Lists.{any_of}
use Rattle.laws.specs.Split.{index_of}

-- its place, from 0
unfoldable pub place_in : ℕ → List ℕ → Option ℕ
place_in code codes = cond (any_of (eqb code) codes) (Some (index_of code codes)) None
