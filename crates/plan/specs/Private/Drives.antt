-- Holds whose drives can be bits of a set.
use Rattle.std.specs.Prelude.{ℕ, ◌≤◌, ◌<◌, ◌≡◌, Bool, true, List}
use Rattle.laws.specs.Lists.{all_of}
use Rattle.text_fields.specs.Items.{between, drive_of}
use Rattle.plan.specs.Value.{row, items}

-- a hold whose drive is one of the 32
abbrev pub is_drive : ℕ → Bool
is_drive h = between 1 32 (drive_of h)

-- all holds of a task are
abbrev pub RowInRange : List ℕ → ℕ → Type 0
RowInRange holds k = all_of is_drive (items (row 32 holds k)) ≡ true

-- those of the first tasks are
pub record RowsInRange (holds : List ℕ) (tasks : ℕ) : Type 0 where
  pub few : tasks ≤ 64
  pub range : (k : ℕ) → k < tasks → RowInRange holds k
