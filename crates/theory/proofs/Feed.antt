-- The first end that a book lacks of a later one with the same drops is accepted, and leads on towards it.
use mathlib.Core.Path.{◌≡◌, sym, ◌∙◌, ap}
use mathlib.Core.Logic.{◌≢◌, ⊎_elim}
use mathlib.Core.Bool.{Bool, true, not, ◌&&◌}
use Prim.Native.Nat.{ℕ, zero, suc, ◌≤◌, ◌<◌}
use native.Mathlib.Omega.{arith}
use borrow.Author.Tests.{eqb-true, eqb-false, eq-eqb, ne_eqb, not-true}
use Rattle.laws.proofs.Cases.{by_bool, by-eq, by_le, and_l, and_r}
use Rattle.laws.specs.Private.Count.{count}
use Rattle.laws.proofs.Count.{count-lt}
use Rattle.theory.specs.Plan.{Plan}
use Rattle.theory.specs.Book.{Book, ended, is_dropped, limit}
use Rattle.theory.proofs.Facts.{Sound, Lawful}
use Rattle.theory.specs.Report.{next}
use Rattle.theory.specs.Words.Events.{Accepts}
use Rattle.theory.proofs.Reflect.{all-ended-of}
use Rattle.theory.proofs.Task.{mark-range, skipped-now, free-started, ended-within, ended-after, runs-kept, end-by-clock, runs_on}
use Rattle.theory.proofs.Step.{sound-next, next-clock, next-dropped}
use Rattle.theory.proofs.Later.{Later, later-next, next-ends, next-new}
use Rattle.theory.proofs.Order.{in_order}
use Rattle.theory.proofs.Same.{EndsIn, KeptIn, SameDrops, ends-in, starts-in}

-- the ends still to feed: those of tasks not dropped
abbrev pub lacking : Book → Book → ℕ → Bool
lacking target book j = not (is_dropped target.dropped j) && (ended target.mark j && not (ended book.mark j))

pub lacking-at :
    (target book : Book) (j : ℕ) → lacking target book j ≡ true
    → (target.dropped j ≢ 1) × (target.mark j ≡ 2) × (book.mark j ≢ 2)
lacking-at target book j h =
    let q = and_r (not (is_dropped target.dropped j)) _ h in (
      eqb-false (target.dropped j) 1 (not-true _ (and_l _ _ h)),
      eqb-true (target.mark j) 2 (and_l _ _ q),
      eqb-false (book.mark j) 2 (not-true _ (and_r (ended target.mark j) _ q)),
    )

pub lacking-of :
    (target book : Book) (j : ℕ) → target.dropped j ≢ 1 → target.mark j ≡ 2 → book.mark j ≢ 2
    → lacking target book j ≡ true
lacking-of target book j d m n =
    rw (ne_eqb (target.dropped j) 1 d, eq-eqb (target.mark j) 2 m, ne_eqb (book.mark j) 2 n)

-- no end that the book lacks is before the tick
abbrev pub NoneBefore : Plan → Book → Book → ℕ → Type 0
NoneBefore plan target book tick =
    (j : ℕ) → j < plan.tasks → target.dropped j ≢ 1 → target.mark j ≡ 2 → book.mark j ≢ 2 → tick ≤ target.end j

-- then whatever ended before the tick in the target has ended in the book, dropped tasks too: by induction on the planned start
module _ (plan : Plan) (law : Lawful plan) (target : Book) (sound : Sound plan target) (book : Book) (sound' : Sound plan book)
    (drops : SameDrops plan book target) (tick : ℕ) (none : NoneBefore plan target book tick) where
  ended_by :
      (n j : ℕ) → plan.begin j < n → j < plan.tasks → target.mark j ≡ 2 → target.end j < tick → book.mark j ≡ 2
  ended_by zero j f l m e = absurd (omega arith)
  ended_by (suc n) j f l m e =
      by-eq (book.mark j) 2 (λ h. h)
      (λ not_yet.
      by-eq (target.dropped j) 1
      (λ d.
      let now = skipped-now (sound.task j l) (omega arith) d in
      let all =
      all-ended-of plan book.mark j (λ i li w.
      let b = law.before j i l li w in
      let p = law.lasts i li in
      let o = in_order plan target sound j i l li w (omega arith) in
      ended_by n i (omega arith) li o.0 (omega (arith, now.1, o.1))) in
      (skipped-now (sound'.task j l) (free-started (sound'.task j l) all) (drops j l ∙ d)).0)
      (λ kept. let q = none j l kept m not_yet in absurd (omega arith)))

  pub ended-before : (j : ℕ) → j < plan.tasks → target.mark j ≡ 2 → target.end j < tick → book.mark j ≡ 2
  ended-before j l m e = ended_by (suc (plan.begin j)) j (omega arith) l m e

-- the first end that the earlier book lacks is accepted there, and leads to a book still earlier than the target
module _ (plan : Plan) (law : Lawful plan) (target : Book) (sound : Sound plan target) (book : Book) (sound' : Sound plan book)
    (before : Later plan book target) (drops : SameDrops plan book target) (k : ℕ) (task : k < plan.tasks)
    (kept : target.dropped k ≢ 1) (over : target.mark k ≡ 2) (lacks : book.mark k ≢ 2)
    (first : NoneBefore plan target book (target.end k)) where
  first_runs : book.mark k ≡ 1
  first_runs =
      let e = ended-after (sound.task k task) over kept in
      let all = all-ended-of plan book.mark k (λ i l w.
      let o = in_order plan target sound k i task l w (omega arith) in
      ended-before plan law target sound book sound' drops (target.end k) first i l o.0 (omega (arith, o.1))) in
      let n = free-started (sound'.task k task) all in
      let r = mark-range (sound'.task k task) in
      omega arith

  -- nobody else runs past its limit by then
  first-others : (j : ℕ) → j < plan.tasks → book.mark j ≡ 1 → target.end k ≤ limit plan book j
  first-others j l m =
      let s = before.started-stay j l (omega arith) in
      let n = s.0 in
      let r = mark-range (sound.task j l) in
      let d = runs-kept (sound'.task j l) m in
      let same = drops j l in
      by-eq (target.mark j) 2
      (λ h. let q = first j l (omega arith) h (omega arith) in let e = ended-within (sound.task j l) h in omega arith)
      (λ h. let q = runs_on (sound.task j l) (omega arith) in let c = end-by-clock (sound.task k task) in omega arith)

  pub first-accepted : Accepts plan book k (target.end k)
  first-accepted =
      let e = ended-within (sound.task k task) over in
      let a = ended-after (sound.task k task) over kept in
      let s = (before.started-stay k task (omega (arith, first_runs))).1 in
      record {
        task = task;
        runs = first_runs;
        now = before.new-ends k task lacks over;
        after = omega arith;
        in_time = omega arith;
        others = first-others;
      }

  after : Book
  after = next plan book k (target.end k)

  stay : Later plan book after
  unfolding after
  stay = later-next plan book k (target.end k) first-accepted

  after-sound : Sound plan after
  unfolding after
  after-sound = sound-next plan book k (target.end k) first-accepted sound'

  pub first-drops : SameDrops plan (next plan book k (target.end k)) target
  first-drops j l = ap (λ (f : ℕ → ℕ). f j) (next-dropped plan book k (target.end k)) ∙ drops j l

  none_after : NoneBefore plan target after (target.end k)
  none_after j l d m n = first j l d m (λ e. n (stay.ended-stay j l e).0)

  kept-after : KeptIn plan after target
  unfolding after
  kept-after j l d h =
      by-eq (book.mark j) 2
      (λ e. let u = stay.ended-stay j l e in let v = before.ended-stay j l e in (v.0, v.1 ∙ sym u.1))
      (λ n.
      let u = next-new plan book k (target.end k) j l n h in
      let same : j ≡ k =
      ⊎_elim (λ q. q)
      (λ o. absurd (d (ap (λ (f : ℕ → ℕ). f j) (next-dropped plan book k (target.end k)) ∙ o)))
      u.0 in
      (ap target.mark same ∙ over, ap target.end same ∙ sym u.1))

  pub first-before : Later plan (next plan book k (target.end k)) target
  unfolding after
  first-before = record {
    clocks = omega (arith, next-clock plan book k (target.end k), end-by-clock (sound.task k task));
    ended-stay = ends;
    started-stay = λ j l.
        starts-in plan (next plan book k (target.end k)) target after-sound sound ends j l (first-drops j l);
    drops-stay = λ j l h. sym (first-drops j l) ∙ h;
    new-ends = λ j l n h.
        by_le (target.end k) (target.end j)
        (λ q. omega (arith, next-clock plan book k (target.end k)))
        (λ q. absurd (n (ended-before plan law target sound _ after-sound first-drops (target.end k) none_after j l h q)));
  }
    where
      ends : EndsIn plan (next plan book k (target.end k)) target
      ends = ends-in plan law (next plan book k (target.end k)) target after-sound sound first-drops kept-after

  -- and fewer are lacking there
  pub first-fewer :
      count plan.tasks (lacking target (next plan book k (target.end k))) < count plan.tasks (lacking target book)
  unfolding after
  first-fewer =
      count-lt plan.tasks (lacking target book) (lacking target (next plan book k (target.end k)))
      (λ j l h.
      let r = lacking-at target (next plan book k (target.end k)) j h in
      lacking-of target book j r.0 r.1 (λ e. r.2 (stay.ended-stay j l e).0))
      k task (lacking-of target book k kept over lacks)
      (by_bool (lacking target (next plan book k (target.end k)) k)
      (λ h. absurd ((lacking-at target (next plan book k (target.end k)) k h).2 (next-ends plan book k (target.end k) task).0))
      (λ h. h))
