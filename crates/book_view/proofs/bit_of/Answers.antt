use Prim.Native.Nat.{◌+◌, ◌%◌, ◌^◌, ◌≤◌}
use mathlib.Core.Path.{◌∙◌}
use native.Mathlib.Nat.{mod-lt, one-mul}
use native.Mathlib.Omega.{arith}
use lib.Dec.{lit<}
use lib.Pow.{shl_exact}
use Rattle.book_view.proofs.bit_of.Goals as goal

pub returns-then-stands : goal.returns-then-stands
returns-then-stands c =
    let task = c.args.task in
    let low = mod-lt task (lit< {m = 0} {n = 64} tt) in
    let room : 1 + task % 64 ≤ 64 = omega (arith, low) in
    rw c.if-stands.true (shl_exact 1 (task % 64) 64 (omega arith) room ∙ one-mul (2 ^ (task % 64)))
