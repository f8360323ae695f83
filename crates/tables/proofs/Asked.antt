-- What a book is asked is computed once, as a list of numbers.
use Prim.Native.Nat.{ℕ}
use native.Mathlib.Omega.{arith}
use mathlib.Core.Bool.{Bool, true, false, cond}
use mathlib.Core.List.{List}
use mathlib.Core.Path.{◌≡◌, refl, ap}
use lib.ListN.{get_or}

pub at_place : {these those : List ℕ} → these ≡ those → (n : ℕ) → get_or these n 0 ≡ get_or those n 0
at_place e n = ap (λ (l : List ℕ). get_or l n 0) e

-- a test among them is 1 where it holds
abbrev pub as_number : Bool → ℕ
as_number test = cond test 1 0

pub as-true : (test : Bool) → as_number test ≡ 1 → test ≡ true
as-true true e = refl
as-true false e = absurd (omega (arith, e))
