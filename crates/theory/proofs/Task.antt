-- What a task's state says, whatever is asked of a waiting task; and that all-ended looks only at who has ended.
use mathlib.Core.Path.{◌≡◌}
use mathlib.Core.Logic.{◌≢◌}
use mathlib.Core.Bool.{true}
use Prim.Native.Nat.{ℕ, ◌≤◌, ◌<◌}
use native.Mathlib.Omega.{arith}
use borrow.Author.Tests.{eqb-true, eq-eqb}
use Rattle.laws.proofs.Cases.{same_test}
use Rattle.theory.specs.Plan.{Plan}
use Rattle.theory.specs.Book.{Book, ended, limit, all_ended, due, ready_due}
use Rattle.theory.proofs.Facts.{Blocker, TaskOk}
use Rattle.theory.proofs.Reflect.{all-ended-at, all-ended-of}

module _ {Waits : ℕ → Type 0} {plan : Plan} {book : Book} {i : ℕ} where
  pub mark-range : TaskOk Waits plan book i → book.mark i ≤ 2
  mark-range (TaskOk.is-waiting m d w s e) = omega arith
  mark-range (TaskOk.is-running m d all s e c) = omega arith
  mark-range (TaskOk.has_ended m d all s a f c) = omega arith
  mark-range (TaskOk.was-skipped m d w all s e c) = omega arith

  pub drop-range : TaskOk Waits plan book i → book.dropped i ≤ 1
  drop-range (TaskOk.is-waiting m d w s e) = d
  drop-range (TaskOk.is-running m d all s e c) = omega arith
  drop-range (TaskOk.has_ended m d all s a f c) = omega arith
  drop-range (TaskOk.was-skipped m d w all s e c) = omega arith

  pub waiting-why : TaskOk Waits plan book i → book.mark i ≡ 0 → Waits i
  waiting-why (TaskOk.is-waiting m d w s e) z = w
  waiting-why (TaskOk.is-running m d all s e c) z = absurd (omega arith)
  waiting-why (TaskOk.has_ended m d all s a f c) z = absurd (omega arith)
  waiting-why (TaskOk.was-skipped m d w all s e c) z = absurd (omega arith)

  pub started-all : TaskOk Waits plan book i → book.mark i ≢ 0 → all_ended plan book.mark i ≡ true
  started-all (TaskOk.is-waiting m d w s e) n = absurd (n m)
  started-all (TaskOk.is-running m d all s e c) n = all
  started-all (TaskOk.has_ended m d all s a f c) n = all
  started-all (TaskOk.was-skipped m d w all s e c) n = all

  pub started-at :
      TaskOk Waits plan book i → book.mark i ≢ 0 → book.dropped i ≢ 1 → book.start i ≡ ready_due plan book.end i
  started-at (TaskOk.is-waiting m d w s e) n o = absurd (n m)
  started-at (TaskOk.is-running m d all s e c) n o = s
  started-at (TaskOk.has_ended m d all s a f c) n o = s
  started-at (TaskOk.was-skipped m d w all s e c) n o = absurd (o d)

  -- dropped or not, it starts between the latest of the ends it waits for and what it is due at if not dropped
  pub started-between :
      TaskOk Waits plan book i → book.mark i ≢ 0
      → (due plan book.end i ≤ book.start i) × (book.start i ≤ ready_due plan book.end i)
  started-between (TaskOk.is-waiting m d w s e) n = absurd (n m)
  started-between (TaskOk.is-running m d all s e c) n = (omega arith, omega arith)
  started-between (TaskOk.has_ended m d all s a f c) n = (omega arith, omega arith)
  started-between (TaskOk.was-skipped m d w all s e c) n = (omega arith, omega arith)

  pub runs_on : TaskOk Waits plan book i → book.mark i ≡ 1 → book.clock ≤ limit plan book i
  runs_on (TaskOk.is-waiting m d w s e) z = absurd (omega arith)
  runs_on (TaskOk.is-running m d all s e c) z = c
  runs_on (TaskOk.has_ended m d all s a f c) z = absurd (omega arith)
  runs_on (TaskOk.was-skipped m d w all s e c) z = absurd (omega arith)

  -- whoever runs was not dropped
  pub runs-kept : TaskOk Waits plan book i → book.mark i ≡ 1 → book.dropped i ≡ 0
  runs-kept (TaskOk.is-waiting m d w s e) z = absurd (omega arith)
  runs-kept (TaskOk.is-running m d all s e c) z = d
  runs-kept (TaskOk.has_ended m d all s a f c) z = absurd (omega arith)
  runs-kept (TaskOk.was-skipped m d w all s e c) z = absurd (omega arith)

  pub ended-within :
      TaskOk Waits plan book i → book.mark i ≡ 2 → (book.start i ≤ book.end i) × (book.end i ≤ limit plan book i)
  ended-within (TaskOk.is-waiting m d w s e) z = absurd (omega arith)
  ended-within (TaskOk.is-running m d all s e c) z = absurd (omega arith)
  ended-within (TaskOk.has_ended m d all s a f c) z = (omega arith, f)
  ended-within (TaskOk.was-skipped m d w all s e c) z = (omega arith, omega arith)

  -- whoever ended and was not dropped took time
  pub ended-after : TaskOk Waits plan book i → book.mark i ≡ 2 → book.dropped i ≢ 1 → book.start i < book.end i
  ended-after (TaskOk.is-waiting m d w s e) z n = absurd (omega arith)
  ended-after (TaskOk.is-running m d all s e c) z n = absurd (omega arith)
  ended-after (TaskOk.has_ended m d all s a f c) z n = a
  ended-after (TaskOk.was-skipped m d w all s e c) z n = absurd (n d)

  -- whoever was dropped took none, and its ready tick is ignored
  pub skipped-now :
      TaskOk Waits plan book i → book.mark i ≢ 0 → book.dropped i ≡ 1
      → (book.mark i ≡ 2) × (book.end i ≡ book.start i) × (book.start i ≡ due plan book.end i)
  skipped-now (TaskOk.is-waiting m d w s e) n o = absurd (n m)
  skipped-now (TaskOk.is-running m d all s e c) n o = absurd (omega arith)
  skipped-now (TaskOk.has_ended m d all s a f c) n o = absurd (omega arith)
  skipped-now (TaskOk.was-skipped m d w all s e c) n o = (m, e, s)

  pub end-by-clock : TaskOk Waits plan book i → book.end i ≤ book.clock
  end-by-clock (TaskOk.is-waiting m d w s e) = omega arith
  end-by-clock (TaskOk.is-running m d all s e c) = omega arith
  end-by-clock (TaskOk.has_ended m d all s a f c) = c
  end-by-clock (TaskOk.was-skipped m d w all s e c) = c

  pub no_end : TaskOk Waits plan book i → book.mark i ≢ 2 → book.end i ≡ 0
  no_end (TaskOk.is-waiting m d w s e) n = e
  no_end (TaskOk.is-running m d all s e c) n = e
  no_end (TaskOk.has_ended m d all s a f c) n = absurd (n m)
  no_end (TaskOk.was-skipped m d w all s e c) n = absurd (n m)

  pub no_start : TaskOk Waits plan book i → book.mark i ≡ 0 → book.start i ≡ 0
  no_start (TaskOk.is-waiting m d w s e) z = s
  no_start (TaskOk.is-running m d all s e c) z = absurd (omega arith)
  no_start (TaskOk.has_ended m d all s a f c) z = absurd (omega arith)
  no_start (TaskOk.was-skipped m d w all s e c) z = absurd (omega arith)

-- once all it waits for have ended, a task of a sound book has started
pub free-started :
    {plan : Plan} {book : Book} {i : ℕ} → TaskOk (Blocker plan book.mark) plan book i
    → all_ended plan book.mark i ≡ true → book.mark i ≢ 0
free-started {plan} {book} {i} task all z =
    let w = waiting-why task z in w.still (all-ended-at plan book.mark i all w.who w.task w.held)

-- whoever ended in one has ended in the other
pub all-ended-more :
    (plan : Plan) (mark more : ℕ → ℕ) (i : ℕ) → ((j : ℕ) → j < plan.tasks → mark j ≡ 2 → more j ≡ 2)
    → all_ended plan mark i ≡ true → all_ended plan more i ≡ true
all-ended-more plan mark more i f all = all-ended-of plan more i (λ j l w. f j l (all-ended-at plan mark i all j l w))

pub all-ended-same :
    (plan : Plan) (mark other : ℕ → ℕ) (i : ℕ) → ((j : ℕ) → j < plan.tasks → mark j ≡ 2 → other j ≡ 2)
    → ((j : ℕ) → j < plan.tasks → other j ≡ 2 → mark j ≡ 2) → all_ended plan mark i ≡ all_ended plan other i
all-ended-same plan mark other i f g =
    same_test (all_ended plan mark i) (all_ended plan other i) (all-ended-more plan mark other i f)
    (all-ended-more plan other mark i g)

pub ended_same :
    (mark other : ℕ → ℕ) (j : ℕ) → (mark j ≡ 2 → other j ≡ 2) → (other j ≡ 2 → mark j ≡ 2) → ended mark j ≡ ended other j
ended_same mark other j f g =
    same_test (ended mark j) (ended other j)
    (λ h. eq-eqb (other j) 2 (f (eqb-true (mark j) 2 h)))
    (λ h. eq-eqb (mark j) 2 (g (eqb-true (other j) 2 h)))
