-- A number of which 0 says that there is none.
use Rattle.std.specs.Prelude.{ℕ, zero, suc, Option, None, Some}

-- none for 0, else the number
abbrev pub nonzero : ℕ → Option ℕ
nonzero zero = None
nonzero (suc n) = Some (suc n)
