-- When two tasks overlap, clash and break after. Tasks are counted from 0 here, and an after list names task i by i + 1.
use Rattle.std.specs.Prelude.{ℕ, ◌+◌, ◌<◌, ◌≡◌, ◌⊎◌, true}
use mathlib.Core.List.{List, Memᴰ}
use Rattle.text_fields.specs.Items.{drive_of, is_shared}
use Rattle.plan.specs.Task.{Task}

-- Planned times are half open: a and b overlap when start a < finish b and start b < finish a
abbrev pub Overlap : Task → Task → Type 0
Overlap a b = (a.begin < b.finish) × (b.begin < a.finish)

-- a hold of each is of one drive, and not both are shared
pub record CommonDrive (these those : List ℕ) : Type 0 where
  pub one : ℕ
  pub other : ℕ
  pub here : Memᴰ one these
  pub there : Memᴰ other those
  pub drive : drive_of one ≡ drive_of other
  pub exclusively : is_shared one ≡ true → is_shared other ≡ true → ⊥

-- of the tasks of a plan, from 0
module _ (task : ℕ → Task) (a b : ℕ) where
  abbrev pub OneBoard : Type 0
  OneBoard = (task a).board ≡ (task b).board

  -- they hold a common drive at least one of them exclusively
  abbrev pub OneDrive : Type 0
  OneDrive = CommonDrive (task a).holds (task b).holds

  -- a lists b under after
  abbrev pub Lists : Type 0
  Lists = Memᴰ (b + 1) (task a).after

  -- and b's planned finish is not at or before a's planned start
  abbrev pub BreaksAfter : Type 0
  BreaksAfter = Lists × ((task a).begin < (task b).finish)

-- Two tasks clash when they have the same board, or hold a common drive at least one of them exclusively, or one lists the other
abbrev pub Clashes : (ℕ → Task) → ℕ → ℕ → Type 0
Clashes task a b = OneBoard task a b ⊎ (OneDrive task a b ⊎ (Lists task a b ⊎ Lists task b a))
