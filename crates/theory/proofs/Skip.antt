-- Skipping dropped tasks that may go, until none may: a book that was sound but for those who have just become free stays so.
use mathlib.Core.Path.{◌≡◌, refl, sym, ◌∙◌, fun_ext}
use mathlib.Core.Logic.{◌≢◌}
use mathlib.Core.Bool.{Bool, true, false, ◌&&◌}
use Prim.Native.Nat.{ℕ, zero, suc, ◌≤◌, ◌<◌}
use native.Mathlib.Omega.{arith}
use lib.Dec.{ltb}
use borrow.Author.Tests.{eqb-true, eq-eqb, ne_eqb, lt-ltb, ltb-true}
use Rattle.laws.proofs.Cases.{by_bool, true-false, and_l, and_r, and-of}
use Rattle.laws.specs.Every.{any}
use Rattle.laws.proofs.Every.{any_at, any_of}
use Rattle.laws.specs.Picked.{latest}
use Rattle.laws.specs.Private.Count.{count}
use Rattle.laws.proofs.Count.{count-lt, count-all, count-some}
use Rattle.laws.proofs.Latest.{latest-more}
use Rattle.theory.specs.Plan.{Plan}
use Rattle.theory.specs.Book.{Book, ended, waiting, is_dropped, all_ended, last_end}
use Rattle.theory.proofs.Facts.{TaskOk}
use Rattle.theory.specs.Report.{goes, skips, skip_once, skip_times}
use Rattle.theory.proofs.Task.{end-by-clock, all-ended-more}
use Rattle.theory.proofs.Onward.{FreeNow, Onward, onward-all, onward-due, onward-start, onward-free}

-- a book in which whoever is free to go has not gone yet
pub record Halfway (plan : Plan) (book : Book) : Type 0 where
  pub task : (i : ℕ) → i < plan.tasks → TaskOk (FreeNow plan book) plan book i
  pub clock-is : book.clock ≡ last_end plan book

-- who may go
module _ (plan : Plan) (book : Book) where
  pub goes_at : (i : ℕ) → goes plan book i ≡ true → (i < plan.tasks) × (book.mark i ≡ 0) × (all_ended plan book.mark i ≡ true)
  unfolding goes
  goes_at i h =
      let q = and_r (ltb i plan.tasks) _ h in
      (ltb-true _ _ (and_l _ _ h), eqb-true (book.mark i) 0 (and_l _ _ q), and_r (waiting book.mark i) _ q)

  pub goes_of : (i : ℕ) → i < plan.tasks → book.mark i ≡ 0 → all_ended plan book.mark i ≡ true → goes plan book i ≡ true
  unfolding goes
  goes_of i l m all = and-of (lt-ltb i plan.tasks l) (and-of (eq-eqb (book.mark i) 0 m) all)

-- what one round does at a task
pub data SkipAt (plan : Plan) (book after : Book) (i : ℕ) : Type 0 where
  skipped :
      book.mark i ≡ 0 → book.dropped i ≡ 1 → all_ended plan book.mark i ≡ true → after.mark i ≡ 2
      → after.start i ≡ book.clock → after.end i ≡ book.clock → SkipAt plan book after i
  stays :
      after.mark i ≡ book.mark i → after.start i ≡ book.start i → after.end i ≡ book.end i → SkipAt plan book after i

module _ (plan : Plan) (book : Book) where
  pub skip_at : (i : ℕ) → SkipAt plan book (skip_once plan book) i
  skip_at i =
      by_bool (skips plan book i)
      (λ h.
      let g = goes_at plan book i (and_l _ _ h) in
      let d = eqb-true (book.dropped i) 1 (and_r (goes plan book i) _ h) in
      SkipAt.skipped g.1 d g.2 (rw h) (rw h) (rw h))
      (λ h. SkipAt.stays (rw h) (rw h) (rw h))

  module _ (half : Halfway plan book) where
    skip-onward : Onward plan book (skip_once plan book)
    skip-onward = record {
      stay = λ j l h. stay j h (skip_at j);
      new = λ j l n h. new j n h (skip_at j);
      by = λ j l. by j l (skip_at j);
    }
      where
        stay :
            (j : ℕ) → book.mark j ≡ 2 → SkipAt plan book (skip_once plan book) j
            → ((skip_once plan book).mark j ≡ 2) × ((skip_once plan book).end j ≡ book.end j)
        stay j h (SkipAt.skipped z d all m s e) = absurd (omega arith)
        stay j h (SkipAt.stays m s e) = (m ∙ h, e)

        new :
            (j : ℕ) → book.mark j ≢ 2 → (skip_once plan book).mark j ≡ 2 → SkipAt plan book (skip_once plan book) j
            → (skip_once plan book).end j ≡ book.clock
        new j n h (SkipAt.skipped z d all m s e) = e
        new j n h (SkipAt.stays m s e) = absurd (n (sym m ∙ h))

        by : (j : ℕ) → j < plan.tasks → SkipAt plan book (skip_once plan book) j → (skip_once plan book).end j ≤ book.clock
        by j l (SkipAt.skipped z d all m s e) = omega arith
        by j l (SkipAt.stays m s e) = omega (arith, end-by-clock (half.task j l))

    -- one round leaves the book halfway
    halfway-skip : Halfway plan (skip_once plan book)
    halfway-skip = record { task = λ i l. task i l (skip_at i) (half.task i l); clock-is = clock }
      where
        on : Onward plan book (skip_once plan book)
        on = skip-onward

        task :
            (i : ℕ) → i < plan.tasks → SkipAt plan book (skip_once plan book) i → TaskOk (FreeNow plan book) plan book i
            → TaskOk (FreeNow plan (skip_once plan book)) plan (skip_once plan book) i
        task i l (SkipAt.skipped z d all m s e) (TaskOk.is-waiting m' d' w s' e') =
            TaskOk.was-skipped m d (w.some d) (onward-all on i all) (s ∙ sym (w.since all) ∙ onward-due on i all) (e ∙ sym s)
            (omega arith)
        task i l (SkipAt.skipped z d all m s e) (TaskOk.is-running m' d' all' s' e' c) = absurd (omega arith)
        task i l (SkipAt.skipped z d all m s e) (TaskOk.has_ended m' d' all' s' a f c) = absurd (omega arith)
        task i l (SkipAt.skipped z d all m s e) (TaskOk.was-skipped m' d' w all' s' e' c) = absurd (omega arith)
        task i l (SkipAt.stays m s e) (TaskOk.is-waiting m' d' w s' e') =
            TaskOk.is-waiting (m ∙ m') d' (record { since = onward-free on i w.since; some = w.some }) (s ∙ s') (e ∙ e')
        task i l (SkipAt.stays m s e) (TaskOk.is-running m' d' all' s' e' c) =
            TaskOk.is-running (m ∙ m') d' (onward-all on i all') (s ∙ s' ∙ onward-start on i all') (e ∙ e') (omega arith)
        task i l (SkipAt.stays m s e) (TaskOk.has_ended m' d' all' s' a f c) =
            TaskOk.has_ended (m ∙ m') d' (onward-all on i all') (s ∙ s' ∙ onward-start on i all') (omega arith) (omega arith)
            (omega arith)
        task i l (SkipAt.stays m s e) (TaskOk.was-skipped m' d' w all' s' e' c) =
            TaskOk.was-skipped (m ∙ m') d' w (onward-all on i all') (s ∙ s' ∙ onward-due on i all') (e ∙ e' ∙ sym s) (omega arith)

        clock : book.clock ≡ latest plan.tasks (ended (skip_once plan book).mark) (skip_once plan book).end
        clock =
            half.clock-is
            ∙ latest-more plan.tasks (ended book.mark) (ended (skip_once plan book).mark) book.end
            (skip_once plan book).end
            (λ j l h. let r = on.stay j l (eqb-true (book.mark j) 2 h) in (eq-eqb _ 2 r.0, r.1))
            (λ j l h. omega (arith, on.by j l, half.clock-is))

-- what all rounds do at a task
pub data SkippedAt (plan : Plan) (book after : Book) (i : ℕ) : Type 0 where
  skipped :
      book.mark i ≡ 0 → book.dropped i ≡ 1 → all_ended plan after.mark i ≡ true → after.mark i ≡ 2
      → after.start i ≡ book.clock → after.end i ≡ book.clock → SkippedAt plan book after i
  stays :
      after.mark i ≡ book.mark i → after.start i ≡ book.start i → after.end i ≡ book.end i
      → SkippedAt plan book after i

module _ (plan : Plan) where
  pub skips-clock : (n : ℕ) (book : Book) → (skip_times n plan book).clock ≡ book.clock
  unfolding skip_times
  skips-clock zero book = refl
  skips-clock (suc n) book = skips-clock n (skip_once plan book)

  pub skips-dropped : (n : ℕ) (book : Book) → (skip_times n plan book).dropped ≡ book.dropped
  unfolding skip_times
  skips-dropped zero book = refl
  skips-dropped (suc n) book = skips-dropped n (skip_once plan book)

  pub halfway-skips : (n : ℕ) (book : Book) → Halfway plan book → Halfway plan (skip_times n plan book)
  unfolding skip_times
  halfway-skips zero book half = half
  halfway-skips (suc n) book half = halfway-skips n (skip_once plan book) (halfway-skip plan book half)

  -- whoever has ended stays so
  pub skips-stay :
      (n : ℕ) (book : Book) (j : ℕ) → book.mark j ≡ 2
      → ((skip_times n plan book).mark j ≡ 2) × ((skip_times n plan book).start j ≡ book.start j)
      × ((skip_times n plan book).end j ≡ book.end j)
  unfolding skip_times
  skips-stay zero book j h = (h, refl, refl)
  skips-stay (suc n) book j h = go (skip_at plan book j) (skips-stay n (skip_once plan book) j)
    where
      after : Book
      after = skip_times n plan (skip_once plan book)

      once : Book
      once = skip_once plan book

      go :
          SkipAt plan book once j
          → (once.mark j ≡ 2 → (after.mark j ≡ 2) × (after.start j ≡ once.start j) × (after.end j ≡ once.end j))
          → (after.mark j ≡ 2) × (after.start j ≡ book.start j) × (after.end j ≡ book.end j)
      go (SkipAt.skipped z d all m s e) later = absurd (omega arith)
      go (SkipAt.stays m s e) later = let r = later (m ∙ h) in (r.0, r.1 ∙ s, r.2 ∙ e)

  pub skips-all : (n : ℕ) (book : Book) (i : ℕ) → all_ended plan book.mark i ≡ true → all_ended plan (skip_times n plan book).mark i ≡ true
  skips-all n book i =
      all-ended-more plan book.mark (skip_times n plan book).mark i (λ j l h. (skips-stay n book j h).0)

  pub skips-at : (n : ℕ) (book : Book) (i : ℕ) → SkippedAt plan book (skip_times n plan book) i
  unfolding skip_times
  skips-at zero book i = SkippedAt.stays refl refl refl
  skips-at (suc n) book i =
      go (skip_at plan book i) (skips-at n (skip_once plan book) i) (skips-stay n (skip_once plan book) i) (skips-all (suc n) book i)
    where
      once : Book
      once = skip_once plan book

      after : Book
      after = skip_times n plan (skip_once plan book)

      go :
          SkipAt plan book once i → SkippedAt plan once after i
          → (once.mark i ≡ 2 → (after.mark i ≡ 2) × (after.start i ≡ once.start i) × (after.end i ≡ once.end i))
          → (all_ended plan book.mark i ≡ true → all_ended plan after.mark i ≡ true)
          → SkippedAt plan book after i
      go (SkipAt.skipped z d all m s e) later stay more =
          let r = stay m in SkippedAt.skipped z d (more all) r.0 (r.1 ∙ s) (r.2 ∙ e)
      go (SkipAt.stays m s e) (SkippedAt.skipped z d all m' s' e') stay more = SkippedAt.skipped (sym m ∙ z) d all m' s' e'
      go (SkipAt.stays m s e) (SkippedAt.stays m' s' e') stay more = SkippedAt.stays (m' ∙ m) (s' ∙ s) (e' ∙ e)

-- the dropped tasks that still wait
abbrev left : Book → ℕ → Bool
left book i = waiting book.mark i && is_dropped book.dropped i

module _ (plan : Plan) (book : Book) where
  skips-task : (i : ℕ) → skips plan book i ≡ true → (i < plan.tasks) × (left book i ≡ true)
  skips-task i h =
      let g = goes_at plan book i (and_l _ _ h) in
      (g.0, and-of (eq-eqb (book.mark i) 0 g.1) (and_r (goes plan book i) _ h))

  -- a round that skips one leaves fewer
  fewer : (k : ℕ) → skips plan book k ≡ true → count plan.tasks (left (skip_once plan book)) < count plan.tasks (left book)
  fewer k h =
      let t = skips-task k h in
      count-lt plan.tasks (left book) (left (skip_once plan book)) (λ j l q. more j q (skip_at plan book j)) k t.0 t.1 gone
    where
      more : (j : ℕ) → left (skip_once plan book) j ≡ true → SkipAt plan book (skip_once plan book) j → left book j ≡ true
      more j q (SkipAt.skipped z d all m s e) =
          let o = eqb-true ((skip_once plan book).mark j) 0 (and_l _ _ q) in absurd (omega arith)
      more j q (SkipAt.stays m s e) =
          let o = eqb-true ((skip_once plan book).mark j) 0 (and_l _ _ q) in
          and-of (eq-eqb (book.mark j) 0 (sym m ∙ o)) (and_r (waiting (skip_once plan book).mark j) _ q)

      gone : left (skip_once plan book) k ≡ false
      gone = let m : (skip_once plan book).mark k ≡ 2 = rw h in rw (ne_eqb ((skip_once plan book).mark k) 0 (omega arith))

  -- a round that skips nobody changes nothing
  idle : ((i : ℕ) → skips plan book i ≡ false) → skip_once plan book ≡ book
  idle none =
      λ d. record {
        mark = fun_ext marks d;
        start = fun_ext starts d;
        end = fun_ext ends d;
        dropped = book.dropped;
        clock = book.clock;
      }
    where
      marks : (i : ℕ) → (skip_once plan book).mark i ≡ book.mark i
      marks i = rw (none i)

      starts : (i : ℕ) → (skip_once plan book).start i ≡ book.start i
      starts i = rw (none i)

      ends : (i : ℕ) → (skip_once plan book).end i ≡ book.end i
      ends i = rw (none i)

  nobody : any plan.tasks (skips plan book) ≡ false → (i : ℕ) → skips plan book i ≡ false
  nobody h i =
      by_bool (skips plan book i)
      (λ q. true-false (any_of plan.tasks (skips plan book) i (skips-task i q).0 q) h)
      (λ q. q)

module _ (plan : Plan) where
  idle-stays : (n : ℕ) (book : Book) → ((i : ℕ) → skips plan book i ≡ false) → skip_times n plan book ≡ book
  unfolding skip_times
  idle-stays zero book none = refl
  idle-stays (suc n) book none = rw (idle plan book none) (idle-stays n book none)

  settle :
      (n : ℕ) (book : Book) → count plan.tasks (left book) ≤ n → (i : ℕ) → skips plan (skip_times n plan book) i ≡ false
  unfolding skip_times
  settle zero book f i =
      by_bool (skips plan book i)
      (λ h. let t = skips-task plan book i h in let p = count-some plan.tasks (left book) i t.0 t.1 in absurd (omega arith))
      (λ h. h)
  settle (suc n) book f i =
      by_bool (any plan.tasks (skips plan book))
      (λ h.
      let r = any_at plan.tasks (skips plan book) h in
      let q = fewer plan book r.0 r.2 in
      settle n (skip_once plan book) (omega arith) i)
      (λ h.
      let none = nobody plan book h in
      let e : skip_times n plan (skip_once plan book) ≡ book = rw (idle plan book none) (idle-stays n book none) in
      rw e (none i))

  -- no chain is longer than there are tasks: in the end no dropped task may go
  pub settled : (book : Book) (i : ℕ) → skips plan (skip_times plan.tasks plan book) i ≡ false
  settled book = settle plan.tasks book (count-all plan.tasks (left book))
