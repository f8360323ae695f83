-- The front of a buffer that a whole text was written into.
use Prim.Native.Nat.{ℕ, ◌≤◌}
use mathlib.Core.Path.{◌≡◌, ◌∙◌, ap}
use mathlib.Core.List.{List}
use native.Mathlib.Omega.{arith}
use lib.ListN.{length, take}
use lib.Seq.{sets}
use borrow.Author.Tests.{le-leb}
use Rattle.laws.proofs.Sets.{front-is}
use Rattle.text.specs.Put.{if_fits}

module _
    {most : ℕ} (text out : List ℕ) {written : List ℕ} {r : ℕ} (room : most ≤ length out)
    (ran : (r ≡ length (if_fits most (length out) text)) × (written ≡ sets out 0 (if_fits most (length out) text)) × (r ≤ most))
  where
    all : if_fits most (length out) text ≡ text
    all = rw (le-leb most (length out) room)

    count : r ≡ length text
    count = ran.0 ∙ ap length all

    -- where there is room for the longest text, the front of the buffer is the text
    pub whole-front : take r written ≡ text
    whole-front = ap (take r) (ran.1 ∙ ap (sets out 0) all) ∙ front-is text out r count (omega (arith, count, room, ran.2))
