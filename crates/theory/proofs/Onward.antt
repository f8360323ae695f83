-- A book moved on to a moment: whoever ended stays ended, and whoever ends by it ends at that moment.
use mathlib.Core.Path.{◌≡◌, refl, sym, ap, ◌∙◌}
use mathlib.Core.Logic.{◌≢◌}
use mathlib.Core.Bool.{true}
use Prim.Native.Nat.{ℕ, ◌≤◌, ◌<◌, max}
use Rattle.laws.proofs.Cases.{by_bool}
use Rattle.laws.proofs.Latest.{latest-is, latest-same}
use Rattle.theory.specs.Plan.{Plan}
use Rattle.theory.specs.Book.{Book, all_ended, due, ready_due}
use Rattle.theory.proofs.Facts.{Blocker, Waiter}
use Rattle.theory.proofs.Reflect.{all-ended-at, blocker}
use Rattle.theory.proofs.Task.{all-ended-more}

-- what a book says of a waiting task in which whoever is free to go has not gone yet:
-- once free to go, it is free since now, the latest of the ends it waits for being the clock; and one dropped waits for somebody
pub record FreeNow (plan : Plan) (book : Book) (i : ℕ) : Type 0 where
  pub since : all_ended plan book.mark i ≡ true → due plan book.end i ≡ book.clock
  pub some : book.dropped i ≡ 1 → Waiter plan i

pub record Onward (plan : Plan) (book after : Book) : Type 0 where
  pub stay : (j : ℕ) → j < plan.tasks → book.mark j ≡ 2 → (after.mark j ≡ 2) × (after.end j ≡ book.end j)
  pub new : (j : ℕ) → j < plan.tasks → book.mark j ≢ 2 → after.mark j ≡ 2 → after.end j ≡ after.clock
  pub by : (j : ℕ) → j < plan.tasks → after.end j ≤ after.clock

module _ {plan : Plan} {book after : Book} (on : Onward plan book after) where
  pub onward-all : (i : ℕ) → all_ended plan book.mark i ≡ true → all_ended plan after.mark i ≡ true
  onward-all i = all-ended-more plan book.mark after.mark i (λ j l h. (on.stay j l h).0)

  pub onward-due :
      (i : ℕ) → all_ended plan book.mark i ≡ true → due plan book.end i ≡ due plan after.end i
  onward-due i all =
      latest-same plan.tasks _ _ _ _ (λ j l. refl)
      (λ j l w. sym (on.stay j l (all-ended-at plan book.mark i all j l w)).1)

  pub onward-start :
      (i : ℕ) → all_ended plan book.mark i ≡ true → ready_due plan book.end i ≡ ready_due plan after.end i
  onward-start i all = ap (max (plan.ready i)) (onward-due i all)

  -- whoever is free by it is free since now
  pub onward-since : (i : ℕ) → Blocker plan book.mark i → all_ended plan after.mark i ≡ true → due plan after.end i ≡ after.clock
  onward-since i b all =
      let m = all-ended-at plan after.mark i all b.who b.task b.held in
      let e = on.new b.who b.task b.still m in
      latest-is plan.tasks _ _ after.clock (λ j l w. on.by j l) b.who b.task b.held e

  -- and so is whoever was free since now already
  pub onward-free :
      (i : ℕ) → (all_ended plan book.mark i ≡ true → due plan book.end i ≡ after.clock)
      → all_ended plan after.mark i ≡ true → due plan after.end i ≡ after.clock
  onward-free i was all =
      by_bool (all_ended plan book.mark i)
      (λ h. sym (onward-due i h) ∙ was h)
      (λ h. onward-since i (blocker plan book.mark i h) all)
