-- What a report and a drop are refused by, in the order of their checks.
use Prim.Native.Nat.{ℕ, ◌-◌, ◌<◌}
use native.Mathlib.Omega.{arith}
use mathlib.Core.Path.{◌≡◌, refl, ap}
use mathlib.Core.Logic.{◌≢◌, ◌↔◌, ◌⊎◌, inl, inr, ⊎_elim}
use mathlib.Core.Bool.{Bool, true, false, not, cond, ◌||◌}
use lib.Dec.{eqb, leb, ltb}
use borrow.Author.Tests.{eq-eqb, ne_eqb, eqb-true, eqb-false, lt-ltb, ltb-true, le-leb, leb-true, leb-false, lt-leb, not-true}
use Rattle.laws.specs.Every.{implies}
use Rattle.laws.proofs.Cases.{by_bool, by-eq, by_le, or_at, or_l, or_r, true-false, implies-fails}
use Rattle.laws.proofs.Every.{every-fails, every-not}
use Rattle.theory.specs.Book.{running, waiting, is_dropped}
use Rattle.theory.specs.Report.{none_past, report_code, drop_code}
use Rattle.theory.specs.Words.Events.{Event}
use Rattle.theory.proofs.Task.{mark-range}
use Rattle.plan.specs.Value.{at}
use Rattle.book.specs.View.{plan_view, book_view}
use Rattle.book.specs.Sound.{is_sound}
use Rattle.book.specs.Report.{code_of, report_answer, reported_of}
use Rattle.book.specs.Drop.{drop_code_of, drop_answer, dropped_of}
use Rattle.book.specs.declared.Book.{Book}
use Rattle.book.proofs.Soundness.{is-sound-facts}
use Rattle.promises.specs.Ladder.{Ladder}
use Rattle.promises.specs.Checks.{OtherPast, report_checks, drop_checks}
use Rattle.promises.specs.Runs.{Waiting, Ended, Started, Dropped, start_of, limit_of}
use Rattle.promises.proofs.Ladder.{First, first_by, ladder_of}
use Rattle.promises.proofs.RunView.{answer-code}

-- two tests with one number are one
cond-or : (a b : Bool) (n rest : ℕ) → cond a n (cond b n rest) ≡ cond (a || b) n rest
cond-or true b n rest = refl
cond-or false b n rest = refl

module _ (book : Book) (task : ℕ) where
  abbrev unknown : Bool
  unknown = eqb task 0 || leb book.tasks (task - 1)

  unknown-is : (unknown ≡ true) ↔ ((task < 1) ⊎ (book.tasks < task))
  unknown-is = (
    λ h.
        ⊎_elim (λ e. let z = eqb-true task 0 e in inl (omega arith))
        (λ e. let z = leb-true book.tasks (task - 1) e in by-eq task 0 (λ q. inl (omega arith)) (λ q. inr (omega arith)))
        (or_at (eqb task 0) (leb book.tasks (task - 1)) h),
    ⊎_elim (λ l. or_l (leb book.tasks (task - 1)) (eq-eqb task 0 (omega arith)))
        (λ l. or_r (eqb task 0) (le-leb book.tasks (task - 1) (omega arith))),
  )

  known : ((task < 1) ⊎ (book.tasks < task) → ⊥) → task - 1 < book.tasks
  known f =
      by_le 1 task
      (λ l. by_le task book.tasks (λ m. omega arith) (λ m. absurd (f (inr m))))
      (λ l. absurd (f (inl l)))

  -- a task that does not run waits or has ended
  idle : is_sound book ≡ true → task - 1 < book.tasks → (not (running (at book.mark) (task - 1)) ≡ true) ↔ (Waiting book (task - 1) ⊎ Ended book (task - 1))
  idle h l = (
    λ n.
        let m = eqb-false (at book.mark (task - 1)) 1 (not-true (running (at book.mark) (task - 1)) n) in
        let r = mark-range (((is-sound-facts book).0 h).sound.task (task - 1) l) in
        by-eq (at book.mark (task - 1)) 0 (λ z. inl z) (λ d. inr (omega arith)),
    λ w.
        let m : at book.mark (task - 1) ≢ 1 = λ e. ⊎_elim (λ z. omega arith) (λ z. omega arith) w in
        rw (ne_eqb (at book.mark (task - 1)) 1 m),
  )

  module _ (tick : ℕ) where
    other-past :
        (limit_of book (task - 1) < tick → ⊥)
        → (not (none_past (plan_view book) (book_view book) tick) ≡ true) ↔ OtherPast book (task - 1) tick
    unfolding none_past
    other-past own = (
      λ n.
          let f = every-fails book.tasks _ (not-true (none_past (plan_view book) (book_view book) tick) n) in
          let i = implies-fails (running (at book.mark) f.0) (leb tick (limit_of book f.0)) f.2 in
          let past = leb-false tick (limit_of book f.0) i.1 in
          record {
            who = f.0;
            known = f.1;
            other = λ e. own (rw e at past);
            runs = eqb-true (at book.mark f.0) 1 i.0;
            past = past;
          },
      λ o.
          let t : implies (running (at book.mark) o.who) (leb tick (limit_of book o.who)) ≡ false =
          rw (eq-eqb (at book.mark o.who) 1 o.runs, lt-leb tick (limit_of book o.who) o.past) in
          ap not (every-not book.tasks _ o.who o.known t),
    )

    by-ltb : (a b : ℕ) → (ltb a b ≡ true) ↔ (a < b)
    by-ltb a b = (ltb-true a b, lt-ltb a b)

    codes-first :
        is_sound book ≡ true
        → First
        (report_checks book task tick)
        (cond unknown 10
        (cond (not (running (at book.mark) (task - 1))) 11
        (cond (ltb tick book.clock) 12
        (cond (leb tick (start_of book (task - 1))) 13
        (cond (ltb (limit_of book (task - 1)) tick) 14 (cond (not (none_past (plan_view book) (book_view book) tick)) 15 0))))))
    codes-first h =
        First.past (λ e. true-false h e)
        (first_by unknown _ _ unknown-is (λ ten.
        first_by (not (running (at book.mark) (task - 1))) _ _ (idle h (known ten)) (λ eleven.
        first_by (ltb tick book.clock) _ _ (by-ltb tick book.clock) (λ twelve.
        first_by (leb tick (start_of book (task - 1))) _ _ (leb-true tick (start_of book (task - 1)), le-leb tick (start_of book (task - 1))) (λ thirteen.
        first_by (ltb (limit_of book (task - 1)) tick) _ _ (by-ltb (limit_of book (task - 1)) tick) (λ fourteen.
        first_by (not (none_past (plan_view book) (book_view book) tick)) _ _ (other-past fourteen) (λ fifteen. First.end refl)))))))

    code_is :
        code_of book task tick
        ≡ cond unknown 10
        (cond (not (running (at book.mark) (task - 1))) 11
        (cond (ltb tick book.clock) 12
        (cond (leb tick (start_of book (task - 1))) 13
        (cond (ltb (limit_of book (task - 1)) tick) 14 (cond (not (none_past (plan_view book) (book_view book) tick)) 15 0)))))
    unfolding code_of report_code
    code_is = cond-or (eqb task 0) (leb book.tasks (task - 1)) 10 _

    unsound-code : is_sound book ≡ false → (reported_of book task tick).answer.code ≡ 9
    unfolding reported_of report_answer
    unsound-code h = rw h

    report-first : First (report_checks book task tick) (reported_of book task tick).answer.code
    report-first =
        by_bool (is_sound book)
        (λ h. rw (answer-code book h (Event.ends task tick), code_is) (codes-first h))
        (λ h. First.here h (unsound-code h))

    pub report-ladder : Ladder (report_checks book task tick) (reported_of book task tick).answer.code
    report-ladder = ladder_of (report_checks book task tick) (reported_of book task tick).answer.code refl report-first

  -- a drop
  taken : (not (waiting (at book.mark) (task - 1)) || is_dropped (at book.dropped) (task - 1) ≡ true) ↔ (Started book (task - 1) ⊎ Dropped book (task - 1))
  taken = (
    λ h.
        ⊎_elim (λ n. inl (eqb-false (at book.mark (task - 1)) 0 (not-true (waiting (at book.mark) (task - 1)) n)))
        (λ d. inr (eqb-true (at book.dropped (task - 1)) 1 d))
        (or_at (not (waiting (at book.mark) (task - 1))) (is_dropped (at book.dropped) (task - 1)) h),
    ⊎_elim (λ n. let e : not (waiting (at book.mark) (task - 1)) ≡ true = rw (ne_eqb (at book.mark (task - 1)) 0 n) in or_l (is_dropped (at book.dropped) (task - 1)) e)
        (λ d. or_r (not (waiting (at book.mark) (task - 1))) (eq-eqb (at book.dropped (task - 1)) 1 d)),
  )

  drop-is : drop_code_of book task ≡ cond unknown 10 (cond (not (waiting (at book.mark) (task - 1)) || is_dropped (at book.dropped) (task - 1)) 19 0)
  unfolding drop_code_of drop_code
  drop-is = cond-or (eqb task 0) (leb book.tasks (task - 1)) 10 _

  unsound-drop : is_sound book ≡ false → (dropped_of book task).answer.code ≡ 9
  unfolding dropped_of drop_answer
  unsound-drop h = rw h

  drop-first : First (drop_checks book task) (dropped_of book task).answer.code
  drop-first =
      by_bool (is_sound book)
      (λ h.
      rw (answer-code book h (Event.drops task), drop-is)
      (First.past (λ e. true-false h e)
      (first_by unknown _ _ unknown-is (λ ten.
      first_by (not (waiting (at book.mark) (task - 1)) || is_dropped (at book.dropped) (task - 1)) _ _ taken (λ nineteen. First.end refl)))))
      (λ h. First.here h (unsound-drop h))

  pub drop-ladder : Ladder (drop_checks book task) (dropped_of book task).answer.code
  drop-ladder = ladder_of (drop_checks book task) (dropped_of book task).answer.code refl drop-first
