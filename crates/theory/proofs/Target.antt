-- The book that a timetable is: every task has ended. It is sound.
use mathlib.Core.Path.{◌≡◌, refl}
use mathlib.Core.Logic.{◌≢◌}
use mathlib.Core.Bool.{true, cond}
use Prim.Native.Nat.{ℕ, ◌≤◌, ◌<◌}
use native.Mathlib.Omega.{arith}
use borrow.Author.Tests.{eq-eqb, ne_eqb}
use Rattle.laws.proofs.Cases.{by-eq}
use Rattle.laws.specs.Picked.{latest}
use Rattle.laws.proofs.Latest.{latest-over}
use Rattle.theory.specs.Plan.{Plan}
use Rattle.theory.specs.Book.{Book, book_of, is_dropped, all_ended}
use Rattle.theory.proofs.Facts.{Blocker, TaskOk, Sound, Lawful}
use Rattle.theory.proofs.Reflect.{all-ended-of}
use Rattle.theory.specs.Times.{start_time, end_time}
use Rattle.theory.specs.Words.Lines.{TwoLines}
use Rattle.theory.proofs.Fits.{Fits}
use Rattle.theory.proofs.Solved.{solves}
use Rattle.theory.proofs.Bounds.{start-dropped, start-kept, end-dropped, end_kept}

module _ (plan : Plan) (length dropped : ℕ → ℕ) where
  -- any number but 1 stands for a task that is not dropped
  abbrev drops : ℕ → ℕ
  drops i = cond (is_dropped dropped i) 1 0

  abbrev pub target : Book
  target = book_of (λ i. 2) (start_time plan length dropped) (end_time plan length dropped) drops (latest plan.tasks (λ i. true) (end_time plan length dropped))

  pub drop-is : (i : ℕ) → dropped i ≡ 1 → drops i ≡ 1
  drop-is i d = rw (eq-eqb (dropped i) 1 d)

  pub drop-not : (i : ℕ) → dropped i ≢ 1 → drops i ≡ 0
  drop-not i n = rw (ne_eqb (dropped i) 1 n)

  pub is-dropped : (i : ℕ) → drops i ≡ 1 → dropped i ≡ 1
  is-dropped i h = by-eq (dropped i) 1 (λ d. d) (λ n. let z = drop-not i n in absurd (omega arith))

  module _ (law : Lawful plan) (fits : Fits plan length dropped) where
    lines : TwoLines plan length dropped (start_time plan length dropped) (end_time plan length dropped)
    lines = solves plan law length dropped

    all : (i : ℕ) → all_ended plan (λ j. 2) i ≡ true
    all i = all-ended-of plan (λ j. 2) i (λ j l w. refl)

    by-clock : (i : ℕ) → i < plan.tasks → target.end i ≤ target.clock
    by-clock i l = latest-over plan.tasks (λ j. true) (end_time plan length dropped) i l refl

    task : (i : ℕ) → i < plan.tasks → TaskOk (Blocker plan target.mark) plan target i
    task i l =
        by-eq (dropped i) 1
        (λ d.
        let w = fits.waits i l d in
        TaskOk.was-skipped refl (drop-is i d) (record { who = w.0; task = w.1; held = w.2 }) (all i)
        (start-dropped plan length dropped _ _ lines i l d) (end-dropped plan length dropped _ _ lines i l d) (by-clock i l))
        (λ n.
        let e = end_kept plan length dropped _ _ lines i l n in
        let w = fits.within i l n in
        TaskOk.has_ended refl (drop-not i n) (all i) (start-kept plan length dropped _ _ lines i l n)
        (omega (arith, w.0)) (omega (arith, w.1)) (by-clock i l))

    pub target_sound : Sound plan target
    target_sound = record { task = task; clock-is = refl }
