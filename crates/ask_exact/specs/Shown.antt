-- How a figure is handed over.
use Rattle.std.specs.Prelude.{ℕ, Bool, true, false}
use Rattle.std.proofs.Math.Option.{Option, none, some}

-- a figure as the C interface has it
pub record Early : Type 0 where
  pub known : Bool
  pub early : ℕ

-- "none" is the flag false beside 0, a number the flag true beside it
abbrev pub shown : Option ℕ → Early
shown none = record { known = false; early = 0 }
shown (some early) = record { known = true; early = early }
