-- Whomever a task minds, its wait set is lawful.
use mathlib.Core.Bool.{Bool}
use Prim.Native.Nat.{ℕ, ◌≤◌, ◌<◌}
use borrow.Author.Tests.{leb-true}
use Rattle.laws.proofs.Cases.{and_r}
use Rattle.theory.specs.Plan.{minding}
use Rattle.theory.proofs.Facts.{Lawful}

module _ (minds : ℕ → ℕ → Bool) (tasks : ℕ) (ready begin finish : ℕ → ℕ) where
  -- nobody waits for a task planned to finish after its own planned start
  pub minding-lawful :
      ((i : ℕ) → i < tasks → ready i ≤ begin i) → ((i : ℕ) → i < tasks → begin i < finish i)
      → Lawful (minding minds tasks ready begin finish)
  minding-lawful by lasts = record { ready = by; lasts = lasts; before = λ i j li lj w. leb-true (finish j) (begin i) (and_r (minds i j) _ w) }
