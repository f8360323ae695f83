-- Runs of stores, one after the other.
use Prim.Native.Nat.{ℕ, suc, ◌+◌, ◌≤◌}
use mathlib.Core.Path.{◌≡◌, sym, ap, ◌∙◌}
use mathlib.Core.List.{List, [], ◌∷◌, ◌++◌}
use native.Mathlib.Omega.{arith}
use lib.ListN.{length, take, drop, set}
use lib.Seq.{sets, take_at}
use Rattle.laws.proofs.Blank.{sets-front}

module _ {A : Type 0} where
  -- a run right after another is one run
  pub sets-append : (l : List A) (i : ℕ) (xs ys : List A) → sets (sets l i xs) (i + length xs) ys ≡ sets l i (xs ++ ys)
  sets-append l i [] ys = let e : i + 0 ≡ i = omega arith in rw e
  sets-append l i (a ∷ xs) ys =
      let e : i + suc (length xs) ≡ suc i + length xs = omega arith in rw e (sets-append (set l i a) (suc i) xs ys)

-- a text that was written from a buffer's first byte on is the buffer's front
pub front-is : (text out : List ℕ) (r : ℕ) → r ≡ length text → length text ≤ length out → take r (sets out 0 text) ≡ text
front-is text out r e h = ap (take r) (sets-front text out h) ∙ take_at text (drop (length text) out) r (sym e)
