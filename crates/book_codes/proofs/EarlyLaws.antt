-- The least of those that count, task by task.
use Prim.Native.Nat.{ℕ, ◌+◌, ◌-◌, ◌≤◌, ◌<◌, min}
use native.Mathlib.Numerals.{add-one}
use native.Mathlib.Omega.{arith}
use mathlib.Core.Bool.{Bool, true, false}
use mathlib.Core.Option.{get_or, none, some}
use mathlib.Core.Path.{◌≡◌, refl, sym, ap, ◌∙◌}
use lib.ListN.{length}
use Rattle.std.specs.Prelude.{Option, None, Some, unwrap_or}
use Rattle.laws.specs.Picked.{least}
use Rattle.laws.proofs.Least.{least-or-under}
use Rattle.theory.specs.Plan.{Plan}
use Rattle.theory.specs.Book.{Book}
use Rattle.theory.specs.Figure.{has_begun, early_by, counts, minimum_early}
use Rattle.book_view.specs.Shown.{plan_shown, book_shown}
use Rattle.book_view.specs.declared.BookView.{BookView}
use Rattle.book_view.proofs.Short.{at-past}
use Rattle.book_codes.specs.Private.Held.{held}

-- one that counts, the first or not, and one that does not
module _ (w : ℕ → Bool) (f : ℕ → ℕ) (n : ℕ) {so_far : Option ℕ} (h : held so_far ≡ least n w f) {next : Option ℕ} where
  module _ (picked : w n ≡ true) {this : ℕ} (t : this ≡ f n) where
    pub least-first : so_far ≡ None → next ≡ Some this → held next ≡ least (n + 1) w f
    unfolding least
    least-first e d = let none-yet : least n w f ≡ none = sym h ∙ ap held e in rw (d, add-one, picked, none-yet, t)

    pub least-other :
        {other lower : ℕ} → so_far ≡ Some other → lower ≡ min other this → next ≡ Some lower → held next ≡ least (n + 1) w f
    unfolding least
    least-other {other} e m d = let one-yet : least n w f ≡ some other = sym h ∙ ap held e in rw (d, add-one, picked, one-yet, m, t)

  pub least-passed : w n ≡ false → next ≡ so_far → held next ≡ least (n + 1) w f
  unfolding least
  least-passed passed d = rw (d, add-one, passed) h

-- how early it is
module _ (plan : Plan) (book : Book) (i : ℕ) {since this : ℕ} (t : this ≡ plan.begin i - since) where
  pub early-begun : has_begun book i ≡ true → since ≡ book.start i → this ≡ early_by plan book i
  early-begun h e = rw (h, t, e)

  pub early-to-begin : has_begun book i ≡ false → since ≡ plan.ready i → this ≡ early_by plan book i
  early-to-begin h e = rw (h, t, e)

held-or : (found : Option ℕ) → unwrap_or found 0 ≡ get_or (held found) 0
held-or None = refl
held-or (Some n) = refl

-- the figure of tasks that may lack a place
module _ (v : BookView) {n : ℕ} (e : n ≡ min v.plan.tasks (length v.mark.now)) where
  abbrev plan : Plan
  plan = plan_shown v

  abbrev book : Book
  book = book_shown v

  -- one that lacks it waits, and is planned at 0
  pub figure-none :
      length v.plan.begin.now ≡ length v.mark.now → length v.dropped.now ≡ length v.mark.now → n < v.plan.tasks
      → 0 ≡ minimum_early plan book
  unfolding minimum_early
  figure-none same-begin same-dropped h =
      let j = length v.mark.now in
      let m = at-past v.mark.now j (omega arith) in
      let b = at-past v.plan.begin.now j (omega arith) in
      let d = at-past v.dropped.now j (omega arith) in
      let early = early_by plan book in
      let zero-early : early j ≡ 0 = rw (m, b) (omega arith) in
      let under = least-or-under v.plan.tasks (counts book) early 0 j (omega arith) (rw (m, d)) in
      omega arith

  pub figure-of :
      v.plan.tasks ≤ n → (found : Option ℕ) → held found ≡ least n (counts book) (early_by plan book)
      → unwrap_or found 0 ≡ minimum_early plan book
  unfolding minimum_early
  figure-of h found q =
      let all : n ≡ v.plan.tasks = omega arith in
      held-or found ∙ (λ i. get_or (q i) 0) ∙ (λ i. get_or (least (all i) (counts book) (early_by plan book)) 0)
