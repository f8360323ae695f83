-- Each test says what its facts say: all ended, sound, accepted; and a report is taken or refused.
use mathlib.Core.Path.{◌≡◌}
use mathlib.Core.Logic.{◌≢◌, ◌↔◌}
use mathlib.Core.Bool.{true, false, not, cond, ◌&&◌}
use Prim.Native.Nat.{ℕ, ◌≤◌, ◌<◌}
use native.Mathlib.Omega.{arith}
use lib.Dec.{leb, ltb, eqb, lit<}
use borrow.Author.Tests.{eqb-true, eqb-false, leb-true, leb-false, ltb-true, ltb-false, eq-eqb, ne_eqb, le-leb, lt-leb, lt-ltb, le-ltb, not-true, not-false}
use Rattle.laws.proofs.Cases.{by_bool, by-eq, and_l, and_r, and-of, implies-at, implies-of, implies-fails, guard_passed, or_no}
use Rattle.laws.specs.Every.{implies, every, any}
use Rattle.laws.proofs.Every.{every-at, every_of, every-fails, any_at, any_of}
use Rattle.theory.specs.Plan.{Plan}
use Rattle.theory.specs.Book.{Book, ended, running, waiting, is_dropped, limit, all_ended, due, ready_due, last_end}
use Rattle.theory.proofs.Facts.{Blocker, Waiter, TaskOk, Sound}
use Rattle.theory.specs.Book.{task_test, sound_test, waiting_ok, running_ok, ended_ok, skipped_ok}
use Rattle.theory.specs.Report.{none_past, report_code, drop_code}
use Rattle.theory.specs.Words.Events.{Accepts, AcceptsDrop, Event}
use Rattle.theory.proofs.Facts.{event_code, step_to, book_after}

module _ (plan : Plan) (mark : ℕ → ℕ) (i : ℕ) where
  pub all-ended-at : all_ended plan mark i ≡ true → (j : ℕ) → j < plan.tasks → plan.waits i j ≡ true → mark j ≡ 2
  unfolding all_ended
  all-ended-at all j l w =
      let h = every-at plan.tasks (λ x. implies (plan.waits i x) (ended mark x)) all j l in
      eqb-true (mark j) 2 (implies-at (plan.waits i j) (ended mark j) h w)

  pub all-ended-of : ((j : ℕ) → j < plan.tasks → plan.waits i j ≡ true → mark j ≡ 2) → all_ended plan mark i ≡ true
  unfolding all_ended
  all-ended-of f =
      every_of plan.tasks _ (λ j l. implies-of (plan.waits i j) (ended mark j) (λ w. eq-eqb (mark j) 2 (f j l w)))

  -- not all have ended: there is one that has not
  pub blocker : all_ended plan mark i ≡ false → Blocker plan mark i
  unfolding all_ended
  blocker h =
      let r = every-fails plan.tasks (λ x. implies (plan.waits i x) (ended mark x)) h in
      let q = implies-fails (plan.waits i r.0) (ended mark r.0) r.2 in
      record { who = r.0; task = r.1; held = q.0; still = eqb-false (mark r.0) 2 q.1 }

  pub blocked : Blocker plan mark i → all_ended plan mark i ≡ false
  blocked b =
      by_bool (all_ended plan mark i) (λ all. absurd (b.still (all-ended-at all b.who b.task b.held))) (λ h. h)

-- it waits for somebody
module _ (plan : Plan) (i : ℕ) where
  waiter : any plan.tasks (plan.waits i) ≡ true → Waiter plan i
  waiter h = let r = any_at plan.tasks (plan.waits i) h in record { who = r.0; task = r.1; held = r.2 }

  waits-of : Waiter plan i → any plan.tasks (plan.waits i) ≡ true
  waits-of w = any_of plan.tasks (plan.waits i) w.who w.task w.held

-- Sound, as facts and as a test
module _ (plan : Plan) (book : Book) where
  task-test-of : (i : ℕ) → TaskOk (Blocker plan book.mark) plan book i → task_test plan book i ≡ true
  unfolding task_test
  task-test-of i (TaskOk.is-waiting m d w s e) =
      rw (
        le-leb (book.dropped i) 1 d,
        eq-eqb (book.mark i) 0 m,
        blocked plan book.mark i w,
        eq-eqb (book.start i) 0 s,
        eq-eqb (book.end i) 0 e,
      )
  task-test-of i (TaskOk.is-running m d all s e c) =
      rw (
        le-leb (book.dropped i) 1 (omega arith),
        ne_eqb (book.mark i) 0 (omega arith),
        eq-eqb (book.mark i) 1 m,
        eq-eqb (book.dropped i) 0 d,
        all,
        eq-eqb (book.start i) (ready_due plan book.end i) s,
        eq-eqb (book.end i) 0 e,
        le-leb book.clock (limit plan book i) c,
      )
  task-test-of i (TaskOk.has_ended m d all s a f c) =
      rw (
        le-leb (book.dropped i) 1 (omega arith),
        ne_eqb (book.mark i) 0 (omega arith),
        ne_eqb (book.mark i) 1 (omega arith),
        eq-eqb (book.mark i) 2 m,
        ne_eqb (book.dropped i) 1 (omega arith),
        eq-eqb (book.dropped i) 0 d,
        all,
        eq-eqb (book.start i) (ready_due plan book.end i) s,
        lt-ltb (book.start i) (book.end i) a,
        le-leb (book.end i) (limit plan book i) f,
        le-leb (book.end i) book.clock c,
      )
  task-test-of i (TaskOk.was-skipped m d w all s e c) =
      rw (
        le-leb (book.dropped i) 1 (omega arith),
        ne_eqb (book.mark i) 0 (omega arith),
        ne_eqb (book.mark i) 1 (omega arith),
        eq-eqb (book.mark i) 2 m,
        eq-eqb (book.dropped i) 1 d,
        waits-of plan i w,
        all,
        eq-eqb (book.start i) (due plan book.end i) s,
        eq-eqb (book.end i) (book.start i) e,
        le-leb (book.end i) book.clock c,
      )

  waiting-at :
      (i : ℕ) → book.mark i ≡ 0 → book.dropped i ≤ 1 → waiting_ok plan book i ≡ true
      → TaskOk (Blocker plan book.mark) plan book i
  waiting-at i m d h =
      let q = and_r (not (all_ended plan book.mark i)) _ h in
      TaskOk.is-waiting m d (blocker plan book.mark i (not-true _ (and_l _ _ h)))
      (eqb-true _ _ (and_l _ _ q)) (eqb-true _ _ (and_r (eqb (book.start i) 0) _ q))

  running-at :
      (i : ℕ) → book.mark i ≡ 1 → running_ok plan book i (ready_due plan book.end i) ≡ true
      → TaskOk (Blocker plan book.mark) plan book i
  running-at i m h =
      let p = and_r (eqb (book.dropped i) 0) _ h in
      let q = and_r (all_ended plan book.mark i) _ p in
      let r = and_r (eqb (book.start i) (ready_due plan book.end i)) _ q in
      TaskOk.is-running m (eqb-true _ _ (and_l _ _ h)) (and_l _ _ p) (eqb-true _ _ (and_l _ _ q)) (eqb-true _ _ (and_l _ _ r))
      (leb-true _ _ (and_r (eqb (book.end i) 0) _ r))

  ended_at :
      (i : ℕ) → book.mark i ≡ 2 → ended_ok plan book i (ready_due plan book.end i) ≡ true
      → TaskOk (Blocker plan book.mark) plan book i
  ended_at i m h =
      let p = and_r (eqb (book.dropped i) 0) _ h in
      let q = and_r (all_ended plan book.mark i) _ p in
      let r = and_r (eqb (book.start i) (ready_due plan book.end i)) _ q in
      let u = and_r (ltb (book.start i) (book.end i)) _ r in
      TaskOk.has_ended m (eqb-true _ _ (and_l _ _ h)) (and_l _ _ p) (eqb-true _ _ (and_l _ _ q)) (ltb-true _ _ (and_l _ _ r))
      (leb-true _ _ (and_l _ _ u)) (leb-true _ _ (and_r (leb (book.end i) (limit plan book i)) _ u))

  skipped_at :
      (i : ℕ) → book.mark i ≡ 2 → book.dropped i ≡ 1 → skipped_ok plan book i ≡ true
      → TaskOk (Blocker plan book.mark) plan book i
  skipped_at i m d h =
      let p = and_r (any plan.tasks (plan.waits i)) _ h in
      let q = and_r (all_ended plan book.mark i) _ p in
      let r = and_r (eqb (book.start i) (due plan book.end i)) _ q in
      TaskOk.was-skipped m d (waiter plan i (and_l _ _ h)) (and_l _ _ p) (eqb-true _ _ (and_l _ _ q))
      (eqb-true _ _ (and_l _ _ r)) (leb-true _ _ (and_r (eqb (book.end i) (book.start i)) _ r))

  over-at :
      (i : ℕ) → book.mark i ≡ 2
      → cond (is_dropped book.dropped i) (skipped_ok plan book i) (ended_ok plan book i (ready_due plan book.end i)) ≡ true
      → TaskOk (Blocker plan book.mark) plan book i
  over-at i m h =
      by-eq (book.dropped i) 1
      (λ d. skipped_at i m d (rw (eq-eqb (book.dropped i) 1 d) at h))
      (λ n. ended_at i m (rw (ne_eqb (book.dropped i) 1 n) at h))

  -- what the test says of the mark
  marked-at :
      (i : ℕ) → book.dropped i ≤ 1
      → cond (waiting book.mark i) (waiting_ok plan book i)
      (cond (running book.mark i) (running_ok plan book i (ready_due plan book.end i))
      (ended book.mark i
      && cond (is_dropped book.dropped i) (skipped_ok plan book i) (ended_ok plan book i (ready_due plan book.end i))))
      ≡ true
      → TaskOk (Blocker plan book.mark) plan book i
  marked-at i d h =
      by-eq (book.mark i) 0
      (λ m. waiting-at i m d (rw (eq-eqb (book.mark i) 0 m) at h))
      (λ n0.
      by-eq (book.mark i) 1
      (λ m. running-at i m (rw (ne_eqb (book.mark i) 0 n0, eq-eqb (book.mark i) 1 m) at h))
      (λ n1.
      let q :
      (ended book.mark i
      && cond (is_dropped book.dropped i) (skipped_ok plan book i) (ended_ok plan book i (ready_due plan book.end i)))
      ≡ true =
      rw (ne_eqb (book.mark i) 0 n0, ne_eqb (book.mark i) 1 n1) at h in
      over-at i (eqb-true (book.mark i) 2 (and_l _ _ q)) (and_r (ended book.mark i) _ q)))

  task-test-at : (i : ℕ) → task_test plan book i ≡ true → TaskOk (Blocker plan book.mark) plan book i
  unfolding task_test
  task-test-at i h = marked-at i (leb-true _ _ (and_l _ _ h)) (and_r (leb (book.dropped i) 1) _ h)

  pub sound-test : Sound plan book ↔ (sound_test plan book ≡ true)
  unfolding sound_test
  sound-test = (
    λ s.
        and-of (every_of plan.tasks (task_test plan book) (λ i l. task-test-of i (s.task i l)))
        (eq-eqb book.clock (last_end plan book) s.clock-is),
    λ h. record {
      task = λ i l. task-test-at i (every-at plan.tasks (task_test plan book) (and_l _ _ h) i l);
      clock-is = eqb-true book.clock (last_end plan book) (and_r (every plan.tasks (task_test plan book)) _ h);
    },
  )

-- a report is accepted exactly when no code from 10 to 15 applies
module _ (plan : Plan) (book : Book) (k tick : ℕ) where
  none-past-at : none_past plan book tick ≡ true → (j : ℕ) → j < plan.tasks → book.mark j ≡ 1 → tick ≤ limit plan book j
  unfolding none_past
  none-past-at h j l m =
      let q = every-at plan.tasks (λ x. implies (running book.mark x) (leb tick (limit plan book x))) h j l in
      leb-true tick (limit plan book j) (implies-at (running book.mark j) _ q (eq-eqb (book.mark j) 1 m))

  none-past-of : ((j : ℕ) → j < plan.tasks → book.mark j ≡ 1 → tick ≤ limit plan book j) → none_past plan book tick ≡ true
  unfolding none_past
  none-past-of f = every_of plan.tasks _
      (λ j l.
      implies-of (running book.mark j) _ (λ m. le-leb tick (limit plan book j) (f j l (eqb-true (book.mark j) 1 m))))

  pub code-accepts : report_code plan book k tick ≡ 0 → Accepts plan book k tick
  unfolding report_code
  code-accepts h =
      let c10 = guard_passed _ 10 _ (lit< tt) h in
      let c11 = guard_passed _ 11 _ (lit< tt) c10.1 in
      let c12 = guard_passed _ 12 _ (lit< tt) c11.1 in
      let c13 = guard_passed _ 13 _ (lit< tt) c12.1 in
      let c14 = guard_passed _ 14 _ (lit< tt) c13.1 in
      let c15 = guard_passed _ 15 _ (lit< tt) c14.1 in
      record {
        task = leb-false plan.tasks k c10.0;
        runs = eqb-true (book.mark k) 1 (not-false _ c11.0);
        now = ltb-false tick book.clock c12.0;
        after = leb-false tick (book.start k) c13.0;
        in_time = ltb-false (limit plan book k) tick c14.0;
        others = none-past-at (not-false _ c15.0);
      }

  pub accepts-code : Accepts plan book k tick → report_code plan book k tick ≡ 0
  unfolding report_code
  accepts-code ok =
      rw (
        lt-leb plan.tasks k ok.task,
        eq-eqb (book.mark k) 1 ok.runs,
        le-ltb tick book.clock ok.now,
        lt-leb tick (book.start k) ok.after,
        le-ltb (limit plan book k) tick ok.in_time,
        none-past-of ok.others,
      )

-- a drop is accepted exactly when neither 10 nor 19 applies
module _ (plan : Plan) (book : Book) (k : ℕ) where
  pub code-accepts-drop : drop_code plan book k ≡ 0 → AcceptsDrop plan book k
  unfolding drop_code
  code-accepts-drop h =
      let c10 = guard_passed _ 10 _ (lit< tt) h in
      let c19 = guard_passed _ 19 _ (lit< tt) c10.1 in
      record {
        task = leb-false plan.tasks k c10.0;
        waits = eqb-true (book.mark k) 0 (not-false _ (or_no _ _ c19.0).0);
        new = eqb-false (book.dropped k) 1 (or_no (not (waiting book.mark k)) _ c19.0).1;
      }

  pub accepts-drop-code : AcceptsDrop plan book k → drop_code plan book k ≡ 0
  unfolding drop_code
  accepts-drop-code ok =
      rw (lt-leb plan.tasks k ok.task, eq-eqb (book.mark k) 0 ok.waits, ne_eqb (book.dropped k) 1 ok.new)

-- what is accepted of an event
abbrev pub Taken : Plan → Book → Event → Type 0
Taken plan book (Event.ends k tick) = Accepts plan book k tick
Taken plan book (Event.drops k) = AcceptsDrop plan book k

pub code-taken : (plan : Plan) (book : Book) (event : Event) → event_code plan book event ≡ 0 → Taken plan book event
code-taken plan book (Event.ends k tick) z = code-accepts plan book k tick z
code-taken plan book (Event.drops k) z = code-accepts-drop plan book k z

-- a refused event gives the book it was given
pub data Said (plan : Plan) (book : Book) (event : Event) (after : Book) : Type 0 where
  taken : event_code plan book event ≡ 0 → after ≡ step_to plan book event → Said plan book event after
  refused : event_code plan book event ≢ 0 → after ≡ book → Said plan book event after

module _ (plan : Plan) (book : Book) (event : Event) where
  pub after-taken : event_code plan book event ≡ 0 → book_after plan book event ≡ step_to plan book event
  unfolding book_after
  after-taken z = rw (eq-eqb (event_code plan book event) 0 z)

  pub after-refused : event_code plan book event ≢ 0 → book_after plan book event ≡ book
  unfolding book_after
  after-refused n = rw (ne_eqb (event_code plan book event) 0 n)

  pub said : Said plan book event (book_after plan book event)
  said = by-eq (event_code plan book event) 0 (λ z. Said.taken z (after-taken z)) (λ n. Said.refused n (after-refused n))
