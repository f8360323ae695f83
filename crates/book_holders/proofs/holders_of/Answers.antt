use native.Mathlib.Omega.{arith}
use mathlib.Core.Path.{◌≡◌, refl}
use Rattle.laws.specs.Bits.{set_of}
use Rattle.laws.specs.Each.{each}
use Rattle.plan.proofs.PlanRows.{part-row}
use Rattle.book_holders.specs.Holders.{holders_of}
use Rattle.laws.proofs.Noted.{sets-length, sets_more}
use borrow.Author.Rules.{rules}
use Rattle.book_holders.proofs.holders_of.Goals as goal

pub loop-k-init : goal.loop-k-init
unfolding each set_of
loop-k-init c = (omega arith, refl, refl)

pub note_list-requires : goal.note_list-requires
note_list-requires c =
    let inv = c.loop-k.invariant in (search rules, sets-length 32 _ _ inv.1, sets-length 32 _ _ inv.2)

pub loop-k-preserved : goal.loop-k-preserved
loop-k-preserved c =
    let inv = c.loop-k.invariant in
    let noted = c.note_list.ensures in
    (omega arith, sets_more 32 _ _ inv.1 (rw part-row at noted.0), sets_more 32 _ _ inv.2 (rw part-row at noted.1))

pub returns : goal.returns
unfolding holders_of
returns c =
    let inv = c.loop-k.invariant in
    let e : c.loop-k.k ≡ 64 = omega arith in
    λ i. record { held = (rw e at inv.1) i; exclusive = (rw e at inv.2) i }
