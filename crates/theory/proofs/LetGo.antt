-- Letting go whoever may go makes a book sound that was sound but for those who have just become free.
use mathlib.Core.Path.{◌≡◌, refl, sym, ap, ◌∙◌}
use mathlib.Core.Bool.{true, false}
use Prim.Native.Nat.{ℕ, ◌≤◌, ◌<◌, max}
use native.Mathlib.Omega.{arith}
use borrow.Author.Tests.{eq-eqb}
use Rattle.laws.proofs.Cases.{by_bool, by-eq, true-false, and-of}
use Rattle.laws.specs.Picked.{latest}
use Rattle.laws.proofs.Latest.{latest-same}
use Rattle.theory.specs.Plan.{Plan}
use Rattle.theory.specs.Book.{Book, ended, all_ended}
use Rattle.theory.proofs.Facts.{Blocker, TaskOk, Sound}
use Rattle.theory.specs.Report.{goes, skips, let_go}
use Rattle.theory.proofs.Reflect.{blocker}
use Rattle.theory.proofs.Task.{all-ended-same, ended_same}
use Rattle.theory.proofs.Onward.{FreeNow}
use Rattle.theory.proofs.Skip.{Halfway, goes_at, goes_of}

-- what letting go does at a task
pub data LetGoAt (plan : Plan) (book after : Book) (i : ℕ) : Type 0 where
  starts :
      book.mark i ≡ 0 → all_ended plan book.mark i ≡ true → after.mark i ≡ 1
      → after.start i ≡ max (plan.ready i) book.clock → LetGoAt plan book after i
  stays :
      (book.mark i ≡ 0 → all_ended plan book.mark i ≡ false) → after.mark i ≡ book.mark i
      → after.start i ≡ book.start i → LetGoAt plan book after i

module _ (plan : Plan) (book : Book) where
  pub let-go-at : (i : ℕ) → i < plan.tasks → LetGoAt plan book (let_go plan book) i
  let-go-at i l =
      by_bool (goes plan book i)
      (λ g. let r = goes_at plan book i g in LetGoAt.starts r.1 r.2 (rw g) (rw g))
      (λ g.
      let held : book.mark i ≡ 0 → all_ended plan book.mark i ≡ false =
      λ m. by_bool (all_ended plan book.mark i) (λ all. true-false (goes_of plan book i l m all) g) (λ h. h) in
      LetGoAt.stays held (rw g) (rw g))

  -- letting go ends nobody
  let-go-ended : (j : ℕ) → j < plan.tasks → book.mark j ≡ 2 → (let_go plan book).mark j ≡ 2
  let-go-ended j l e = go (let-go-at j l)
    where
      go : LetGoAt plan book (let_go plan book) j → (let_go plan book).mark j ≡ 2
      go (LetGoAt.starts z all m s) = absurd (omega arith)
      go (LetGoAt.stays z m s) = m ∙ e

  let-go-back : (j : ℕ) → j < plan.tasks → (let_go plan book).mark j ≡ 2 → book.mark j ≡ 2
  let-go-back j l e = go (let-go-at j l)
    where
      go : LetGoAt plan book (let_go plan book) j → book.mark j ≡ 2
      go (LetGoAt.starts z all m s) = absurd (omega arith)
      go (LetGoAt.stays z m s) = sym m ∙ e

  pub let-go-all : (i : ℕ) → all_ended plan book.mark i ≡ all_ended plan (let_go plan book).mark i
  let-go-all i = all-ended-same plan book.mark (let_go plan book).mark i let-go-ended let-go-back

  -- letting go makes a book sound that is halfway, if no dropped task may go
  pub sound-let-go : Halfway plan book → ((i : ℕ) → skips plan book i ≡ false) → Sound plan (let_go plan book)
  sound-let-go half none = record { task = λ i l. task i l (let-go-at i l) (half.task i l); clock-is = clock }
    where
      still : (i : ℕ) → all_ended plan book.mark i ≡ false → Blocker plan (let_go plan book).mark i
      still i h = blocker plan (let_go plan book).mark i (sym (let-go-all i) ∙ h)

      -- whoever goes was not dropped
      kept : (i : ℕ) → i < plan.tasks → book.mark i ≡ 0 → all_ended plan book.mark i ≡ true → book.dropped i ≤ 1 → book.dropped i ≡ 0
      kept i l z all d =
          by-eq (book.dropped i) 1
          (λ e. true-false (and-of (goes_of plan book i l z all) (eq-eqb (book.dropped i) 1 e)) (none i))
          (λ n. omega arith)

      task :
          (i : ℕ) → i < plan.tasks → LetGoAt plan book (let_go plan book) i → TaskOk (FreeNow plan book) plan book i
          → TaskOk (Blocker plan (let_go plan book).mark) plan (let_go plan book) i
      task i l (LetGoAt.starts z all m s) (TaskOk.is-waiting m' d w s' e) =
          TaskOk.is-running m (kept i l z all d) (sym (let-go-all i) ∙ all) (s ∙ ap (max (plan.ready i)) (sym (w.since all))) e
          (omega arith)
      task i l (LetGoAt.starts z all m s) (TaskOk.is-running m' d all' s' e c) = absurd (omega arith)
      task i l (LetGoAt.starts z all m s) (TaskOk.has_ended m' d all' s' a f c) = absurd (omega arith)
      task i l (LetGoAt.starts z all m s) (TaskOk.was-skipped m' d w all' s' e c) = absurd (omega arith)
      task i l (LetGoAt.stays z m s) (TaskOk.is-waiting m' d w s' e) = TaskOk.is-waiting (m ∙ m') d (still i (z m')) (s ∙ s') e
      task i l (LetGoAt.stays z m s) (TaskOk.is-running m' d all s' e c) =
          TaskOk.is-running (m ∙ m') d (sym (let-go-all i) ∙ all) (s ∙ s') e (omega arith)
      task i l (LetGoAt.stays z m s) (TaskOk.has_ended m' d all s' a f c) =
          TaskOk.has_ended (m ∙ m') d (sym (let-go-all i) ∙ all) (s ∙ s') (omega arith) (omega arith) c
      task i l (LetGoAt.stays z m s) (TaskOk.was-skipped m' d w all s' e c) =
          TaskOk.was-skipped (m ∙ m') d w (sym (let-go-all i) ∙ all) (s ∙ s') (e ∙ sym s) c

      clock : book.clock ≡ latest plan.tasks (ended (let_go plan book).mark) book.end
      clock =
          half.clock-is
          ∙ latest-same plan.tasks _ _ _ _
          (λ j l. ended_same book.mark (let_go plan book).mark j (let-go-ended j l) (let-go-back j l))
          (λ j l h. refl)
