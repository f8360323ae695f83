-- Whom a task's holds clash with is whom the rule says.
use Prim.Native.Nat.{ℕ, ◌+◌, ◌-◌, ◌^◌, ◌≤◌, ◌<◌}
use native.Mathlib.Omega.{arith}
use mathlib.Core.Path.{◌≡◌, refl, sym, ap, ◌∙◌}
use mathlib.Core.Bool.{Bool, true, not, ◌&&◌, and-true}
use mathlib.Core.List.{List, [], ◌∷◌}
use lib.Dec.{eqb}
use Rattle.laws.specs.Bits.{has, set_of, sets_to}
use Rattle.laws.specs.Lists.{all_of, any_of}
use Rattle.laws.proofs.Bits.{has-below}
use Rattle.laws.proofs.Cases.{by_bool, and_l, and_r}
use Rattle.laws.proofs.Gather.{ItsBit}
use Rattle.laws.proofs.Noted.{set_at}
use Rattle.text_fields.specs.Items.{drive_of, is_shared}
use Rattle.plan.specs.Pairs.{holds_clash, clash_by_drive}
use Rattle.plan.specs.Value.{at, row, items}
use Rattle.plan.specs.Private.Drives.{is_drive, RowInRange}
use Rattle.plan.proofs.Drives.{drive-shift}
use Rattle.book_holders.specs.Holders.{holds_drive, keeps_drive, holders_of, rivals_on}
use Rattle.book_holders.specs.declared.Holders.{Holders}

-- tests that agree on the items of a kind
any-among :
    (kind p q : ℕ → Bool) (l : List ℕ) → all_of kind l ≡ true → ((x : ℕ) → kind x ≡ true → p x ≡ q x) → any_of p l ≡ any_of q l
unfolding any_of all_of
any-among kind p q [] r h = refl
any-among kind p q (x ∷ l) r h =
    rw (h x (and_l (kind x) (all_of kind l) r), any-among kind p q l (and_r (kind x) (all_of kind l) r) h)

-- the rivals of one hold are tasks
pub its-rivals :
    (held exclusive : List ℕ) (h : ℕ) {set : ℕ} → set ≡ rivals_on held exclusive h → set < 2 ^ 64
    → ItsBit 64 (λ j h. has (rivals_on held exclusive h) j) h set
its-rivals held exclusive h e small = record { small = small; bits = λ j l. ap (λ (s : ℕ). has s j) e }

module _ (holds : List ℕ) {all : Holders} (e : all ≡ holders_of holds) where
  -- the holders of one of the 32 drives
  module _ (drive j : ℕ) (from : 1 ≤ drive) (low : drive - 1 < 32) (task : j < 64) where
    place : (f : ℕ → ℕ → Bool) → has (at (sets_to 32 64 (λ d. f (d + 1))) (drive - 1)) j ≡ f drive j
    place f =
        let back : drive - 1 + 1 ≡ drive = omega (arith, from) in
        ap (λ (set : ℕ). has set j) (set_at 32 (λ d. f (d + 1)) 64 (drive - 1) low)
        ∙ has-below 64 (f (drive - 1 + 1)) j task ∙ ap (λ (d : ℕ). f d j) back

    held_at : has (at all.held (drive - 1)) j ≡ holds_drive holds drive j
    unfolding holders_of
    held_at = ap (λ (x : Holders). has (at x.held (drive - 1)) j) e ∙ place (holds_drive holds)

    exclusive-at : has (at all.exclusive (drive - 1)) j ≡ keeps_drive holds drive j
    unfolding holders_of
    exclusive-at = ap (λ (x : Holders). has (at x.exclusive (drive - 1)) j) e ∙ place (keeps_drive holds)

  rival-is : (h j : ℕ) → j < 64 → is_drive h ≡ true → has (rivals_on all.held all.exclusive h) j ≡ any_of (holds_clash h) (items (row 32 holds j))
  rival-is h j task r =
      let range = drive-shift h r in
      by_bool (is_shared h)
      (λ s. rw (r, s) (exclusive-at (drive_of h) j range.0 range.1 task) ∙ (λ i. any_of (λ g. eqb (drive_of h) (drive_of g) && not (sym s i && is_shared g)) (items (row 32 holds j))))
      (λ s.
      rw (r, s) (held_at (drive_of h) j range.0 range.1 task)
      ∙ (λ i. any_of (λ g. sym (and-true (eqb (drive_of h) (drive_of g))) i) (items (row 32 holds j)))
      ∙ (λ i. any_of (λ g. eqb (drive_of h) (drive_of g) && not (sym s i && is_shared g)) (items (row 32 holds j))))

  pub rivals-clash :
      (i : ℕ) → RowInRange holds i → {set : ℕ}
      → set ≡ set_of 64 (λ j. any_of (λ h. has (rivals_on all.held all.exclusive h) j) (items (row 32 holds i)))
      → (j : ℕ) → j < 64 → has set j ≡ clash_by_drive (items (row 32 holds i)) (items (row 32 holds j))
  unfolding clash_by_drive
  rivals-clash i range {set} s j task =
      ap (λ (x : ℕ). has x j) s
      ∙ has-below 64 (λ j. any_of (λ h. has (rivals_on all.held all.exclusive h) j) (items (row 32 holds i))) j task
      ∙ any-among is_drive (λ h. has (rivals_on all.held all.exclusive h) j) (λ h. any_of (holds_clash h) (items (row 32 holds j))) (items (row 32 holds i)) range
      (λ h r. rival-is h j task r)
