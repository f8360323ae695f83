-- The drives of one task's holds as sets: drive d, from 1 to 32, is bit d - 1.
use Rattle.std.specs.Prelude.{ℕ, ◌+◌, ◌<◌, Bool, true, not, ◌&&◌, List, eqb}
use Rattle.laws.specs.Bits.{set_of}
use Rattle.laws.specs.Lists.{any_of}
use Rattle.text_fields.specs.Items.{drive_of, is_shared}
use Rattle.plan.specs.Private.Drives.{RowInRange}
use Rattle.plan_judge.specs.declared.Sets.{Sets}

-- the drives of those holds that are of a kind
abbrev pub drives_of : (ℕ → Bool) → List ℕ → ℕ
drives_of kind holds = set_of 32 (λ d. any_of (λ h. eqb (drive_of h) (d + 1) && kind h) holds)

-- those that are held exclusively, and all that are held
abbrev pub exclusive_in : List ℕ → ℕ
exclusive_in holds = drives_of (λ h. not (is_shared h)) holds

abbrev pub held_in : List ℕ → ℕ
held_in holds = drives_of (λ h. true) holds

abbrev pub sets_of : List ℕ → Sets
sets_of holds = record { exclusive = exclusive_in holds; held = held_in holds }

-- the holds of two tasks are of drives that can be bits
pub record PairInRange (holds : List ℕ) (a b : ℕ) : Type 0 where
  pub below_a : a < 64
  pub below_b : b < 64
  pub range_a : RowInRange holds a
  pub range_b : RowInRange holds b
