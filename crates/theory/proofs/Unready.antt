-- Edition 1 unmoved: where every ready tick is 0 the books, the test of a sound one and M are those of the rule without ready ticks.
use mathlib.Core.Path.{◌≡◌, refl, sym, ap, ◌∙◌, fun_ext}
use mathlib.Core.Logic.{◌≢◌}
use mathlib.Core.Bool.{Bool, false, cond, ◌&&◌}
use Prim.Native.Nat.{ℕ, ◌-◌, ◌≤◌, ◌<◌, max}
use native.Mathlib.Omega.{arith}
use lib.Dec.{eqb}
use borrow.Author.Tests.{eq-eqb, eqb-true, ne_eqb, le-ltb}
use Rattle.laws.proofs.Cases.{by_bool, by_le, true-false}
use Rattle.laws.specs.Every.{any}
use Rattle.laws.proofs.Every.{every-same, any_at, any-not}
use Rattle.laws.proofs.Least.{has-least, least-none, least-or-is}
use Rattle.theory.specs.Plan.{Plan}
use Rattle.theory.specs.Book.{Book, running, due, ready_due, last_end, task_from, task_test, sound_test}
use Rattle.theory.specs.Report.{goes, skip_times, end_it, let_go, next, blank, opened}
use Rattle.theory.specs.Figure.{minimum_early}
use Rattle.theory.specs.Words.Unready.{plain_let_go, plain_opened, plain_next, plain_sound, plain_early}
use Rattle.theory.proofs.Facts.{Sound, Lawful}
use Rattle.theory.proofs.Figure.{Term, figure-least, figure-met, figure-none}
use Rattle.theory.proofs.Order.{ready-ahead}
use Rattle.theory.proofs.Progress.{some_runs}

-- every ready tick is 0
abbrev pub Unready : Plan → Type 0
Unready plan = (i : ℕ) → i < plan.tasks → plan.ready i ≡ 0

none-goes : (plan : Plan) (book : Book) (i : ℕ) → plan.tasks ≤ i → goes plan book i ≡ false
unfolding goes
none-goes plan book i l = rw (le-ltb i plan.tasks l)

module _ (plan : Plan) (none : Unready plan) where
  let-go-plain : (book : Book) → let_go plan book ≡ plain_let_go plan book
  let-go-plain book =
      λ d. record {
        mark = (let_go plan book).mark;
        start = fun_ext starts d;
        end = book.end;
        dropped = book.dropped;
        clock = book.clock;
      }
    where
      starts : (i : ℕ) → (let_go plan book).start i ≡ (plain_let_go plan book).start i
      starts i =
          by_le plan.tasks i
          (λ l. rw (none-goes plan book i l))
          (λ l.
          let e : max (plan.ready i) book.clock ≡ book.clock = omega (arith, none i l) in
          ap (λ (t : ℕ). cond (goes plan book i) t (book.start i)) e)

  -- the opened book
  pub opened-plain : opened plan ≡ plain_opened plan
  unfolding opened plain_opened
  opened-plain = let-go-plain blank

  -- the book after an accepted report
  pub next-plain : (book : Book) (k tick : ℕ) → next plan book k tick ≡ plain_next plan book k tick
  unfolding next plain_next
  next-plain book k tick = let-go-plain (skip_times plan.tasks plan (end_it book k tick))

  -- the test of a sound book
  pub sound-plain : (book : Book) → sound_test plan book ≡ plain_sound plan book
  unfolding sound_test plain_sound task_test
  sound-plain book =
      ap (λ (t : Bool). t && eqb book.clock (last_end plan book))
      (every-same plan.tasks (task_test plan book) (λ i. task_from plan book i (due plan book.end i)) (λ i l.
      let e : ready_due plan book.end i ≡ due plan book.end i = omega (arith, none i l) in
      ap (task_from plan book i) e))

  module _ (law : Lawful plan) (book : Book) (sound : Sound plan book) where
    -- nobody's start lies past the clock
    pub begun-by : (i : ℕ) → i < plan.tasks → book.mark i ≡ 1 → book.start i ≤ book.clock
    begun-by i l m =
        by_le (book.start i) book.clock (λ q. q)
        (λ q. let e = ready-ahead plan book sound i l (omega arith) q in absurd (omega (arith, none i l)))

    plain-none : any plan.tasks (running book.mark) ≡ false → minimum_early plan book ≡ plain_early plan book
    unfolding plain_early
    plain-none h =
        let idle : (i : ℕ) → i < plan.tasks → book.mark i ≢ 1 =
        λ i l m. true-false (eq-eqb (book.mark i) 1 m) (any-not plan.tasks (running book.mark) h i l) in
        figure-none plan book (nobody idle)
        ∙ sym (rw (least-none plan.tasks (running book.mark) (λ i. plan.begin i - book.start i) (λ i l. ne_eqb (book.mark i) 1 (idle i l))))
      where
        nobody :
            ((i : ℕ) → i < plan.tasks → book.mark i ≢ 1) → (i : ℕ) → i < plan.tasks → (early : ℕ) → Term plan book i early → ⊥
        nobody idle i l early (Term.begun m q e) = idle i l m
        nobody idle i l early (Term.ahead m q o e) = idle i l m
        nobody idle i l early (Term.waits m o e) =
            let r = some_runs plan law book sound i l (omega arith) in idle r.0 r.1 r.2

    -- the least term is one of a running task: whoever waits has one before it that runs
    plain-some :
        (k : ℕ) → k < plan.tasks → book.mark k ≡ 1
        → ((j : ℕ) → j < plan.tasks → book.mark j ≡ 1 → plan.begin k - book.start k ≤ plan.begin j - book.start j)
        → minimum_early plan book ≡ plan.begin k - book.start k
    plain-some k l m low =
        let u = figure-least plan book k l _ (Term.begun m (begun-by k l m) refl) in
        let t = figure-met plan book k l _ (Term.begun m (begun-by k l m) refl) in
        let v = over t.0 t.1 (minimum_early plan book) t.2 in
        omega arith
      where
        over : (i : ℕ) → i < plan.tasks → (early : ℕ) → Term plan book i early → plan.begin k - book.start k ≤ early
        over i li early (Term.begun m' q e) = omega (arith, low i li m')
        over i li early (Term.ahead m' q o e) = let b = begun-by i li m' in absurd (omega arith)
        over i li early (Term.waits m' o e) =
            let r = some_runs plan law book sound i li (omega arith) in
            omega (arith, low r.0 r.1 r.2, r.3, none i li)

    -- M
    pub figure-plain : minimum_early plan book ≡ plain_early plan book
    unfolding plain_early
    figure-plain =
        by_bool (any plan.tasks (running book.mark))
        (λ h.
        let r = any_at plan.tasks (running book.mark) h in
        let m = has-least plan.tasks (running book.mark) (λ i. plan.begin i - book.start i) r.0 r.1 r.2 in
        plain-some m.who m.below (eqb-true (book.mark m.who) 1 m.picked)
        (λ j l e. m.least-of j l (eq-eqb (book.mark j) 1 e))
        ∙ sym (least-or-is plan.tasks (running book.mark) (λ i. plan.begin i - book.start i) 0 m.who m.below m.picked m.least-of))
        plain-none
