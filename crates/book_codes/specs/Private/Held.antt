-- The `Option` that the functions hand out, as that of the definitions.
use Rattle.std.specs.Prelude.{ℕ, Option, Some, None}
use Rattle.std.proofs.Math.Option as math

abbrev pub held : Option ℕ → math.Option ℕ
held None = math.none
held (Some n) = math.some n
