-- Who holds a drive: sets of tasks, task k as bit k, drive d at place d - 1.
use Rattle.std.specs.Prelude.{ℕ, ◌+◌, ◌-◌, Bool, not, cond, ◌&&◌, List, eqb}
use Rattle.laws.specs.Lists.{any_of}
use Rattle.laws.specs.Bits.{sets_to}
use Rattle.text_fields.specs.Items.{between, drive_of, is_shared}
use Rattle.plan.specs.Value.{at, row, items}
use Rattle.book_holders.specs.declared.Holders.{Holders}

-- task k holds the drive
abbrev pub holds_drive : List ℕ → ℕ → ℕ → Bool
holds_drive holds drive k = any_of (λ h. eqb drive (drive_of h)) (items (row 32 holds k))

-- and holds it exclusively
abbrev pub keeps_drive : List ℕ → ℕ → ℕ → Bool
keeps_drive holds drive k = any_of (λ h. eqb drive (drive_of h) && not (is_shared h)) (items (row 32 holds k))

-- for each of the 32 drives the set of those that hold it, and of those that hold it exclusively
unfoldable pub holders_of : List ℕ → Holders
holders_of holds = record {
  held = sets_to 32 64 (λ d. holds_drive holds (d + 1));
  exclusive = sets_to 32 64 (λ d. keeps_drive holds (d + 1));
}

-- whom a hold clashes with: all holders of its drive, or where it is shared those that hold it exclusively
abbrev pub rivals_on : List ℕ → List ℕ → ℕ → ℕ
rivals_on held exclusive h =
    cond (between 1 32 (drive_of h)) (cond (is_shared h) (at exclusive (drive_of h - 1)) (at held (drive_of h - 1))) 0
