-- The full lengths and the book's drops are never refused, and their timetable keeps what the book knows.
use mathlib.Core.Path.{◌≡◌, refl}
use mathlib.Core.Logic.{◌≢◌}
use mathlib.Core.Bool.{true}
use Prim.Native.Nat.{ℕ, zero, suc, ◌+◌, ◌-◌, ◌≤◌, ◌<◌}
use native.Mathlib.Omega.{arith}
use borrow.Author.Tests.{eq-eqb, ne_eqb}
use Rattle.laws.proofs.Cases.{by-eq}
use Rattle.laws.proofs.Latest.{latest-same}
use Rattle.theory.specs.Plan.{Plan}
use Rattle.theory.specs.Book.{Book, due, limit}
use Rattle.theory.proofs.Facts.{Sound, Lawful}
use Rattle.theory.proofs.Reflect.{all-ended-at}
use Rattle.theory.proofs.Task.{started-all, started-at, skipped-now, ended-within, ended-after, runs-kept}
use Rattle.theory.proofs.Reach.{drop-waits}
use Rattle.theory.specs.Times.{end_time}
use Rattle.theory.specs.Words.Lines.{TwoLines}
use Rattle.theory.proofs.Fits.{Fits}
use Rattle.theory.proofs.Solved.{solves, sooner}
use Rattle.theory.proofs.Bounds.{start-dropped, start-kept, end-dropped, end_kept, start-by}
use Rattle.theory.specs.Exact.{full_length, full_start}

-- when a task ends if every running and waiting task takes its full length
abbrev pub full_end : Plan → Book → ℕ → ℕ
full_end plan book = end_time plan (full_length plan book) book.dropped

pub full-ended : (plan : Plan) (book : Book) (i : ℕ) → book.mark i ≡ 2 → full_length plan book i ≡ book.end i - book.start i
full-ended plan book i m = rw (eq-eqb (book.mark i) 2 m)

pub full-other : (plan : Plan) (book : Book) (i : ℕ) → book.mark i ≢ 2 → full_length plan book i ≡ plan.finish i - plan.begin i
full-other plan book i n = rw (ne_eqb (book.mark i) 2 n)

module _ (plan : Plan) (law : Lawful plan) (book : Book) (sound : Sound plan book) where
  -- the engine never refuses these
  pub full-fits : Fits plan (full_length plan book) book.dropped
  full-fits = record {
    within = λ i l n.
        by-eq (book.mark i) 2
        (λ m.
        let e = full-ended plan book i m in
        let w = ended-within (sound.task i l) m in
        let a = ended-after (sound.task i l) m n in
        (omega arith, omega (arith, w.1)))
        (λ m. let e = full-other plan book i m in let p = law.lasts i l in (omega arith, omega arith));
    waits = λ i l d. let w = drop-waits (sound.task i l) d in (w.who, w.task, w.held);
  }

  pub full-lines : TwoLines plan (full_length plan book) book.dropped (full_start plan book) (full_end plan book)
  full-lines = solves plan law (full_length plan book) book.dropped

  -- the start of a started task, once the ends of those it waits for are the book's
  known_start :
      (i : ℕ) → i < plan.tasks → book.mark i ≢ 0
      → ((j : ℕ) → j < plan.tasks → plan.waits i j ≡ true → book.mark j ≡ 2 → full_end plan book j ≡ book.end j)
      → full_start plan book i ≡ book.start i
  known_start i l n same =
      let all = started-all (sound.task i l) n in
      let d : due plan (full_end plan book) i ≡ due plan book.end i =
      latest-same plan.tasks _ _ _ _ (λ j lj. refl) (λ j lj w. same j lj w (all-ended-at plan book.mark i all j lj w)) in
      by-eq (book.dropped i) 1
      (λ o.
      let a = start-dropped plan _ _ _ _ full-lines i l o in let b = (skipped-now (sound.task i l) n o).2 in omega arith)
      (λ o. let a = start-kept plan _ _ _ _ full-lines i l o in let b = started-at (sound.task i l) n o in omega arith)

  known-end :
      (i : ℕ) → i < plan.tasks → book.mark i ≡ 2 → full_start plan book i ≡ book.start i → full_end plan book i ≡ book.end i
  known-end i l m s =
      by-eq (book.dropped i) 1
      (λ o.
      let a = end-dropped plan _ _ _ _ full-lines i l o in
      let b = (skipped-now (sound.task i l) (omega arith) o).1 in
      omega arith)
      (λ o.
      let a = end_kept plan _ _ _ _ full-lines i l o in
      let e = full-ended plan book i m in
      let w = (ended-within (sound.task i l) m).0 in
      omega arith)

  -- by induction on the planned start
  ends-are : (n i : ℕ) → plan.begin i < n → i < plan.tasks → book.mark i ≡ 2 → full_end plan book i ≡ book.end i
  ends-are zero i f l m = absurd (omega arith)
  ends-are (suc n) i f l m =
      known-end i l m
      (known_start i l (omega arith) (λ j lj w mj. let q = sooner plan law i j l lj w in ends-are n j (omega arith) lj mj))

  -- ended tasks keep their ends
  pub keeps-ends : (i : ℕ) → i < plan.tasks → book.mark i ≡ 2 → full_end plan book i ≡ book.end i
  keeps-ends i l m = ends-are (suc (plan.begin i)) i (omega arith) l m

  -- and tasks whose start is known their starts
  pub keeps-starts : (i : ℕ) → i < plan.tasks → book.mark i ≢ 0 → full_start plan book i ≡ book.start i
  keeps-starts i l n = known_start i l n (λ j lj w m. keeps-ends j lj m)

  -- a running task ends at its limit
  pub runs-full : (i : ℕ) → i < plan.tasks → book.mark i ≡ 1 → full_end plan book i ≡ limit plan book i
  runs-full i l m =
      let k = runs-kept (sound.task i l) m in
      let s = keeps-starts i l (omega arith) in
      let e = end_kept plan _ _ _ _ full-lines i l (omega arith) in
      let f = full-other plan book i (omega arith) in
      omega arith

  -- nobody ends later than its full length after its start
  pub ends-within : (i : ℕ) → i < plan.tasks → full_end plan book i ≤ full_start plan book i + (plan.finish i - plan.begin i)
  ends-within i l =
      by-eq (book.dropped i) 1
      (λ o. let a = end-dropped plan _ _ _ _ full-lines i l o in omega arith)
      (λ o. let a = end_kept plan _ _ _ _ full-lines i l o in let w = (full-fits.within i l o).1 in omega arith)

  -- and nobody starts later than planned
  pub starts_by : (i : ℕ) → i < plan.tasks → full_start plan book i ≤ plan.begin i
  starts_by i l = start-by plan _ _ _ _ full-lines law full-fits i l
