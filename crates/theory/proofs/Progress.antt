-- From a sound book with an unended task some report is accepted, so every run can be brought to its end.
use mathlib.Core.Path.{◌≡◌, sym, subst}
use mathlib.Core.Logic.{◌≢◌, ⊎_elim}
use mathlib.Core.List.Memᴰ
use mathlib.Core.List.{Memᴰ}
use mathlib.Core.Bool.{Bool, not}
use Prim.Native.Nat.{ℕ, zero, suc, ◌≤◌, ◌<◌}
use native.Mathlib.Omega.{arith}
use borrow.Author.Tests.{eqb-true, eqb-false, eq-eqb, ne_eqb, not-true}
use Rattle.laws.proofs.Cases.{by_bool, by-eq}
use Rattle.laws.specs.Every.{every}
use Rattle.laws.proofs.Every.{every-at, every-fails}
use Rattle.laws.proofs.Least.{has-least}
use Rattle.laws.specs.Private.Count.{count}
use Rattle.laws.proofs.Count.{count-lt}
use Rattle.theory.specs.Plan.{Plan}
use Rattle.theory.specs.Book.{Book, running, ended, limit}
use Rattle.theory.proofs.Facts.{Sound, Lawful}
use Rattle.theory.specs.Report.{report_code, next}
use Rattle.theory.specs.Words.Events.{Event, IsReport}
use Rattle.theory.proofs.Reflect.{code-accepts, accepts-code}
use Rattle.theory.proofs.Task.{mark-range, waiting-why, runs_on}
use Rattle.theory.proofs.Step.{sound-next}
use Rattle.theory.proofs.Later.{next-ends, later-next}
use Rattle.theory.proofs.Run.{Way, way-none, way-more}

-- a running task of least limit, and that it is accepted at its limit
pub record Progress (plan : Plan) (book : Book) : Type 0 where
  pub who : ℕ
  pub task : who < plan.tasks
  pub runs : book.mark who ≡ 1
  pub least : (j : ℕ) → j < plan.tasks → book.mark j ≡ 1 → limit plan book who ≤ limit plan book j
  pub taken : report_code plan book who (limit plan book who) ≡ 0

module _ (plan : Plan) (law : Lawful plan) (book : Book) (sound : Sound plan book) where
  -- whoever waits has one planned before it that runs: by induction on the planned start
  runs-before :
      (n i : ℕ) → plan.begin i < n → i < plan.tasks → book.mark i ≢ 2
      → (k : ℕ) × (k < plan.tasks) × (book.mark k ≡ 1) × (plan.begin k ≤ plan.begin i)
  runs-before zero i f l h = absurd (omega arith)
  runs-before (suc n) i f l h =
      by-eq (book.mark i) 0
      (λ z.
      let b = waiting-why (sound.task i l) z in
      let a = law.before i b.who l b.task b.held in
      let p = law.lasts b.who b.task in
      let r = runs-before n b.who (omega arith) b.task b.still in
      (r.0, r.1, r.2, omega (arith, r.3)))
      (λ n0. let r = mark-range (sound.task i l) in (i, l, omega arith, omega arith))

  -- some task runs while one has not ended, planned no later
  pub some_runs :
      (i : ℕ) → i < plan.tasks → book.mark i ≢ 2
      → (k : ℕ) × (k < plan.tasks) × (book.mark k ≡ 1) × (plan.begin k ≤ plan.begin i)
  some_runs i l h = runs-before (suc (plan.begin i)) i (omega arith) l h

  -- a running task of least limit is accepted at its limit
  pub limit-accepted :
      (k : ℕ) → k < plan.tasks → book.mark k ≡ 1
      → ((j : ℕ) → j < plan.tasks → book.mark j ≡ 1 → limit plan book k ≤ limit plan book j)
      → report_code plan book k (limit plan book k) ≡ 0
  limit-accepted k l m least =
      accepts-code plan book k (limit plan book k) (record {
        task = l;
        runs = m;
        now = runs_on (sound.task k l) m;
        after = omega (arith, law.lasts k l);
        in_time = omega arith;
        others = least;
      })

  pub progress : (i : ℕ) → i < plan.tasks → book.mark i ≢ 2 → Progress plan book
  progress i l h =
      let r = some_runs i l h in
      let here = eq-eqb (book.mark r.0) 1 r.2 in
      let m = has-least plan.tasks (running book.mark) (limit plan book) r.0 r.1 here in
      let runs = eqb-true (book.mark m.who) 1 m.picked in
      let least : (j : ℕ) → j < plan.tasks → book.mark j ≡ 1 → limit plan book m.who ≤ limit plan book j =
      λ j lj e. m.least-of j lj (eq-eqb (book.mark j) 1 e) in
      record {
        who = m.who;
        task = m.below;
        runs = runs;
        least = least;
        taken = limit-accepted m.who m.below runs least;
      }

-- accepted reports that lead to a book in which every task has ended
pub record Finish (plan : Plan) (book : Book) : Type 0 where
  pub last : Book
  pub way : Way plan book last
  pub reports : (event : Event) → Memᴰ event way.events → IsReport event
  pub all_done : (i : ℕ) → i < plan.tasks → last.mark i ≡ 2

abbrev unended : Book → ℕ → Bool
unended book j = not (ended book.mark j)

module _ (plan : Plan) (law : Lawful plan) where
  -- each report leaves fewer to end
  fewer :
      (book : Book) (k tick : ℕ) → report_code plan book k tick ≡ 0
      → count plan.tasks (unended (next plan book k tick)) < count plan.tasks (unended book)
  fewer book k tick z =
      let ok = code-accepts plan book k tick z in
      let stay = (later-next plan book k tick ok).ended-stay in
      let m = (next-ends plan book k tick ok.task).0 in
      count-lt plan.tasks (unended book) (unended (next plan book k tick))
      (λ j l h.
      let n = eqb-false _ 2 (not-true (ended (next plan book k tick).mark j) h) in
      rw (ne_eqb (book.mark j) 2 (λ e. n (stay j l e).0)))
      k ok.task (rw ok.runs) (rw m)

  finish-by : (n : ℕ) (book : Book) → Sound plan book → count plan.tasks (unended book) < n → Finish plan book
  unfolding way-none way-more
  finish-by zero book sound f = absurd (omega arith)
  finish-by (suc n) book sound f =
      by_bool (every plan.tasks (ended book.mark))
      (λ a. record {
        last = book;
        way = way-none plan book;
        reports = λ event m. absurd (Memᴰ.not-nil m);
        all_done = λ i l. eqb-true (book.mark i) 2 (every-at plan.tasks (ended book.mark) a i l);
      })
      (λ a.
      let r = every-fails plan.tasks (ended book.mark) a in
      let p = progress plan law book sound r.0 r.1 (eqb-false (book.mark r.0) 2 r.2) in
      let tick = limit plan book p.who in
      let ok = code-accepts plan book p.who tick p.taken in
      let q = fewer book p.who tick p.taken in
      let rest = finish-by n (next plan book p.who tick) (sound-next plan book p.who tick ok sound) (omega arith) in
      record {
        last = rest.last;
        way = way-more plan book rest.last (Event.ends p.who tick) p.taken rest.way;
        reports = λ event m. ⊎_elim (λ e. subst IsReport (sym e) tt) (rest.reports event) (Memᴰ.cases_cons {l = rest.way.events} m);
        all_done = rest.all_done;
      })

  -- every run can be brought to its end
  pub finishing : (book : Book) → Sound plan book → Finish plan book
  finishing book sound = finish-by (suc (count plan.tasks (unended book))) book sound (omega arith)
