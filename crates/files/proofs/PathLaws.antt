-- A text put behind a name lies within the buffer.
use Prim.Native.Nat.{ℕ, ◌+◌, ◌≤◌}
use mathlib.Core.Path.{◌≡◌}
use mathlib.Core.List.{List}
use native.Mathlib.Omega.{arith}
use lib.ListN.{length}
use lib.Seq.{sets, length-sets}
use borrow.Author.Tests.{le-leb, lt-leb}
use Rattle.laws.proofs.Cases.{by_le}
use Rattle.text.specs.Put.{Put}

pub put-within : {out : List ℕ} {at : ℕ} {text written : List ℕ} {r : ℕ} → at ≤ length out → Put out at text written r → r ≤ length written
put-within {out} {at} {text} {written} h w =
    by_le (at + length text) (length out)
    (λ g.
    let e = le-leb (at + length text) (length out) g in
    let s : written ≡ sets out at text = rw e at w.bytes in
    rw (s, length-sets) (omega (arith, rw e at w.place)))
    (λ g.
    let e = lt-leb (at + length text) (length out) g in
    let s : written ≡ out = rw e at w.bytes in
    rw s (omega (arith, rw e at w.place)))
