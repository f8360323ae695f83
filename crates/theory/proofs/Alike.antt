-- Nothing but the wait sets of a plan's tasks is looked at: two relations that agree on the tasks give the same.
use mathlib.Core.Path.{◌≡◌, refl, sym, ap, ◌∙◌}
use mathlib.Core.Bool.{Bool, ◌&&◌}
use Prim.Native.Nat.{ℕ, zero, suc, ◌<◌, max}
use Rattle.laws.proofs.Cases.{same_test}
use Rattle.laws.specs.Every.{implies}
use Rattle.laws.proofs.Every.{every-same, any_same}
use Rattle.laws.proofs.Latest.{latest-same}
use Rattle.theory.specs.Plan.{Plan}
use Rattle.theory.specs.Book.{Book, book_of, ended, is_dropped, all_ended, task_test, sound_test}
use Rattle.theory.proofs.Skip.{goes_at, goes_of}
use Rattle.theory.specs.Report.{put, end_it, goes, skip_once, skip_times, let_go, next, blank, opened}

abbrev plan_with : ℕ → (ℕ → ℕ) → (ℕ → ℕ) → (ℕ → ℕ) → (ℕ → ℕ → Bool) → Plan
plan_with tasks ready begin finish waits = record { tasks = tasks; ready = ready; begin = begin; finish = finish; waits = waits }

-- who may go, and so every step, whatever the planned times
module _ (tasks : ℕ) (ready begin finish from to : ℕ → ℕ) (these those : ℕ → ℕ → Bool)
    (agree : (i j : ℕ) → i < tasks → j < tasks → these i j ≡ those i j) where
  abbrev one : Plan
  one = plan_with tasks ready begin finish these

  abbrev other : Plan
  other = plan_with tasks ready from to those

  ended-alike : (mark : ℕ → ℕ) (i : ℕ) → i < tasks → all_ended one mark i ≡ all_ended other mark i
  unfolding all_ended
  ended-alike mark i l = every-same tasks _ _ (λ j k. ap (λ (b : Bool). implies b (ended mark j)) (agree i j l k))

  goes_same : (book : Book) (i : ℕ) → goes one book i ≡ goes other book i
  goes_same book i =
      same_test (goes one book i) (goes other book i)
      (λ h. let g = goes_at one book i h in goes_of other book i g.0 g.1 (sym (ended-alike book.mark i g.0) ∙ g.2))
      (λ h. let g = goes_at other book i h in goes_of one book i g.0 g.1 (ended-alike book.mark i g.0 ∙ g.2))

  goes-alike : goes one ≡ goes other
  goes-alike k book i = goes_same book i k

  skip-alike : (book : Book) → skip_once one book ≡ skip_once other book
  skip-alike book =
      ap
      (λ (may : Book → ℕ → Bool).
      let skipped = put (λ i. may book i && is_dropped book.dropped i) in
      book_of (skipped 2 book.mark) (skipped book.clock book.start) (skipped book.clock book.end) book.dropped book.clock)
      goes-alike

  pub skips-alike : (n : ℕ) (book : Book) → skip_times n one book ≡ skip_times n other book
  unfolding skip_times
  skips-alike zero book = refl
  skips-alike (suc n) book = ap (skip_times n one) (skip-alike book) ∙ skips-alike n (skip_once other book)

  pub let-go-alike : (book : Book) → let_go one book ≡ let_go other book
  let-go-alike book =
      ap
      (λ (may : Book → ℕ → Bool).
      let going = put (may book) in
      book_of (going 1 book.mark) (λ i. going (max (ready i) book.clock) book.start i) book.end book.dropped book.clock)
      goes-alike

  pub next-alike : (book : Book) (k tick : ℕ) → next one book k tick ≡ next other book k tick
  unfolding next
  next-alike book k tick =
      ap (let_go one) (skips-alike tasks (end_it book k tick)) ∙ let-go-alike (skip_times tasks other (end_it book k tick))

  pub opened-alike : opened one ≡ opened other
  unfolding opened
  opened-alike = let-go-alike blank

module _ (tasks : ℕ) (ready begin finish : ℕ → ℕ) (these those : ℕ → ℕ → Bool)
    (agree : (i j : ℕ) → i < tasks → j < tasks → these i j ≡ those i j) where
  abbrev with : (ℕ → ℕ → Bool) → Plan
  with = plan_with tasks ready begin finish

  test-alike : (book : Book) (i : ℕ) → i < tasks → task_test (with these) book i ≡ task_test (with those) book i
  unfolding task_test
  test-alike book i l =
      rw (
        ended-alike tasks ready begin finish begin finish these those agree book.mark i l,
        latest-same tasks (these i) (those i) book.end book.end (λ j k. agree i j l k) (λ j k h. refl),
        any_same tasks (these i) (those i) (λ j k. agree i j l k),
      )

  pub sound-alike : (book : Book) → sound_test (with these) book ≡ sound_test (with those) book
  unfolding sound_test
  sound-alike book = rw (every-same tasks (task_test (with these) book) (task_test (with those) book) (λ i l. test-alike book i l))
