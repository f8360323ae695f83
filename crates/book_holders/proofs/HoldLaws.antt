-- A hold is put in at its drive's place, if it has one.
use Prim.Native.Nat.{ℕ, ◌+◌, ◌-◌, ◌%◌, ◌^◌, ◌<◌}
use native.Mathlib.Omega.{arith}
use mathlib.Core.Path.{◌≡◌}
use mathlib.Core.Bool.{Bool, true, false, cond, ◌&&◌}
use mathlib.Core.List.{List}
use lib.Bits.{bit_or}
use lib.Dec.{eqb}
use lib.ListN.{length, set}
use borrow.Author.Tests.{le-leb}
use Rattle.laws.specs.Private.Noted.{noted}
use Rattle.laws.proofs.Cases.{and-of, true-false}
use Rattle.laws.proofs.Noted.{note-none, note-one}
use Rattle.text_fields.specs.Items.{drive_of}
use Rattle.plan.specs.Value.{at}
use Rattle.plan.specs.Private.Drives.{is_drive}
use Rattle.plan.proofs.Drives.{drive-shift}

-- one hold of a kind, with the bit that bit_of made
module _ (hold : ℕ) (kind : Bool) (pick : ℕ → Bool) (picks : (d : ℕ) → pick d ≡ (eqb (d + 1) (drive_of hold) && kind)) (k : ℕ) (l : List ℕ) where
  pub hold-out : is_drive hold ≡ false → l ≡ noted 32 pick k l
  hold-out out = note-none 32 (drive_of hold) kind pick picks k l (λ d h e. true-false (within d h e) out)
    where
      within : (d : ℕ) → d < 32 → d + 1 ≡ drive_of hold → is_drive hold ≡ true
      within d h e = and-of (le-leb 1 (drive_of hold) (omega arith)) (le-leb (drive_of hold) 32 (omega arith))

  pub hold-noted :
      is_drive hold ≡ true → length l ≡ 32 → k < 64 → {bit : ℕ} → bit ≡ cond kind (2 ^ (k % 64)) 0
      → set l (drive_of hold - 1) (bit_or (at l (drive_of hold - 1)) bit) ≡ noted 32 pick k l
  hold-noted range size low e =
      note-one 32 (drive_of hold) kind pick picks k l (drive-shift hold range).0 (drive-shift hold range).1 size low e
