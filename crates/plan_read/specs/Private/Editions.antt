-- How the task lines of a text are read.
use Rattle.std.specs.Prelude.{ℕ, Bool, true, false, cond, eqb}
use Rattle.plan_read.specs.declared.Edition.{Edition}

-- the edition of the task lines, by its number
abbrev pub edition_by : Bool → ℕ → Edition
edition_by mends n = cond mends Edition.Mended (cond (eqb n 1) Edition.First Edition.Second)

abbrev pub edition_number : Edition → ℕ
edition_number Edition.First = 1
edition_number Edition.Second = 2
edition_number Edition.Mended = 2

-- whether its lines are mended
abbrev pub is_mended : Edition → Bool
is_mended Edition.First = false
is_mended Edition.Second = false
is_mended Edition.Mended = true

-- whether it refuses a shared hold
abbrev pub is_strict : Edition → Bool
is_strict Edition.First = false
is_strict Edition.Second = true
is_strict Edition.Mended = false
