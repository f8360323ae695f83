-- A book in which every task has ended is the timetable of its own lengths and drops.
use mathlib.Core.Path.{◌≡◌}
use Prim.Native.Nat.{ℕ, ◌-◌, ◌<◌}
use native.Mathlib.Omega.{arith}
use borrow.Author.Tests.{eq-eqb, ne_eqb}
use Rattle.laws.proofs.Cases.{by-eq}
use Rattle.theory.specs.Plan.{Plan}
use Rattle.theory.specs.Book.{Book}
use Rattle.theory.proofs.Facts.{Sound}
use Rattle.theory.proofs.Task.{skipped-now, started-at, ended-within, ended-after}
use Rattle.theory.proofs.Reach.{drop-waits}
use Rattle.theory.specs.Times.{start_from, end_from}
use Rattle.theory.specs.Words.Lines.{TwoLines}
use Rattle.theory.proofs.Fits.{Fits}

-- end − start
abbrev pub lasted : Book → ℕ → ℕ
lasted book i = book.end i - book.start i

module _ (plan : Plan) (book : Book) (sound : Sound plan book) (over : (i : ℕ) → i < plan.tasks → book.mark i ≡ 2) where
  pub finished-lines : TwoLines plan (lasted book) book.dropped book.start book.end
  finished-lines = record { starts = starts; ends = ends }
    where
      starts : (i : ℕ) → i < plan.tasks → book.start i ≡ start_from plan book.dropped book.end i
      starts i l =
          let m = over i l in
          by-eq (book.dropped i) 1
          (λ d. rw (eq-eqb (book.dropped i) 1 d) (skipped-now (sound.task i l) (omega arith) d).2)
          (λ n. rw (ne_eqb (book.dropped i) 1 n) (started-at (sound.task i l) (omega arith) n))

      ends : (i : ℕ) → i < plan.tasks → book.end i ≡ end_from (lasted book) book.dropped book.start i
      ends i l =
          let m = over i l in
          by-eq (book.dropped i) 1
          (λ d. let e = (skipped-now (sound.task i l) (omega arith) d).1 in rw (eq-eqb (book.dropped i) 1 d) (omega arith))
          (λ n. let w = (ended-within (sound.task i l) m).0 in rw (ne_eqb (book.dropped i) 1 n) (omega arith))

  pub finished-fits : Fits plan (lasted book) book.dropped
  finished-fits = record {
    within = λ i l n.
        let m = over i l in
        let w = ended-within (sound.task i l) m in
        let a = ended-after (sound.task i l) m n in
        (omega arith, omega (arith, w.1));
    waits = λ i l d. let w = drop-waits (sound.task i l) d in (w.who, w.task, w.held);
  }
