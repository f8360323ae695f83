-- Places past the tasks: no report and no drop changes them.
use mathlib.Core.Path.{◌≡◌, refl, sym, ◌∙◌}
use mathlib.Core.Logic.{◌≢◌}
use mathlib.Core.List.{List, [], ◌∷◌}
use Prim.Native.Nat.{ℕ, zero, suc, ◌≤◌, ◌<◌}
use native.Mathlib.Omega.{arith}
use borrow.Author.Tests.{ne_eqb, le-ltb}
use Rattle.theory.specs.Plan.{Plan}
use Rattle.theory.specs.Book.{Book}
use Rattle.theory.specs.Report.{goes, end_it, skip_once, skip_times, let_go, next, drop_it, blank, opened}
use Rattle.theory.specs.Words.Events.{Event}
use Rattle.theory.proofs.Facts.{step_to, book_after, run}
use Rattle.theory.proofs.Reflect.{Taken, code-taken, Said, said}

pub record SamePast (plan : Plan) (book other : Book) : Type 0 where
  pub marks : (i : ℕ) → plan.tasks ≤ i → book.mark i ≡ other.mark i
  pub starts : (i : ℕ) → plan.tasks ≤ i → book.start i ≡ other.start i
  pub ends : (i : ℕ) → plan.tasks ≤ i → book.end i ≡ other.end i
  pub drops : (i : ℕ) → plan.tasks ≤ i → book.dropped i ≡ other.dropped i

pub past-refl : (plan : Plan) (book : Book) → SamePast plan book book
past-refl plan book = record { marks = λ i l. refl; starts = λ i l. refl; ends = λ i l. refl; drops = λ i l. refl }

pub past-trans :
    (plan : Plan) (book mid other : Book) → SamePast plan book mid → SamePast plan mid other → SamePast plan book other
past-trans plan book mid other p q = record {
  marks = λ i l. p.marks i l ∙ q.marks i l;
  starts = λ i l. p.starts i l ∙ q.starts i l;
  ends = λ i l. p.ends i l ∙ q.ends i l;
  drops = λ i l. p.drops i l ∙ q.drops i l;
}

pub past-sym : (plan : Plan) (book other : Book) → SamePast plan book other → SamePast plan other book
past-sym plan book other p = record {
  marks = λ i l. sym (p.marks i l);
  starts = λ i l. sym (p.starts i l);
  ends = λ i l. sym (p.ends i l);
  drops = λ i l. sym (p.drops i l);
}

pub past-let-go : (plan : Plan) (book : Book) → SamePast plan (let_go plan book) book
unfolding goes
past-let-go plan book = record {
  marks = λ i l. rw (le-ltb i plan.tasks l);
  starts = λ i l. rw (le-ltb i plan.tasks l);
  ends = λ i l. refl;
  drops = λ i l. refl;
}

pub past_skip : (plan : Plan) (book : Book) → SamePast plan (skip_once plan book) book
unfolding goes
past_skip plan book = record {
  marks = λ i l. rw (le-ltb i plan.tasks l);
  starts = λ i l. rw (le-ltb i plan.tasks l);
  ends = λ i l. rw (le-ltb i plan.tasks l);
  drops = λ i l. refl;
}

pub past-skips : (n : ℕ) (plan : Plan) (book : Book) → SamePast plan (skip_times n plan book) book
unfolding skip_times
past-skips zero plan book = past-refl plan book
past-skips (suc n) plan book =
    past-trans plan _ (skip_once plan book) book (past-skips n plan (skip_once plan book)) (past_skip plan book)

pub past-end-it : (plan : Plan) (book : Book) (k tick : ℕ) → k < plan.tasks → SamePast plan (end_it book k tick) book
past-end-it plan book k tick lk = record {
  marks = λ i l. let n : i ≢ k = omega arith in rw (ne_eqb i k n);
  starts = λ i l. refl;
  ends = λ i l. let n : i ≢ k = omega arith in rw (ne_eqb i k n);
  drops = λ i l. refl;
}

pub past_next : (plan : Plan) (book : Book) (k tick : ℕ) → k < plan.tasks → SamePast plan (next plan book k tick) book
unfolding next
past_next plan book k tick lk =
    past-trans plan _ (skip_times plan.tasks plan (end_it book k tick)) book (past-let-go plan _)
    (past-trans plan _ (end_it book k tick) book (past-skips plan.tasks plan (end_it book k tick)) (past-end-it plan book k tick lk))

pub past-drop : (plan : Plan) (book : Book) (k : ℕ) → k < plan.tasks → SamePast plan (drop_it book k) book
past-drop plan book k lk = record {
  marks = λ i l. refl;
  starts = λ i l. refl;
  ends = λ i l. refl;
  drops = λ i l. let n : i ≢ k = omega arith in rw (ne_eqb i k n);
}

past-step : (plan : Plan) (book : Book) (event : Event) → Taken plan book event → SamePast plan (step_to plan book event) book
past-step plan book (Event.ends k tick) ok = past_next plan book k tick ok.task
past-step plan book (Event.drops k) ok = past-drop plan book k ok.task

-- opening leaves nothing there
pub past-opened : (plan : Plan) → SamePast plan (opened plan) blank
unfolding opened
past-opened plan = past-let-go plan blank

-- no report and no drop changes them
pub past-run : (plan : Plan) (book : Book) (events : List Event) → SamePast plan (run plan book events) book
unfolding run
past-run plan book [] = past-refl plan book
past-run plan book (event ∷ later) =
    past-trans plan _ (book_after plan book event) book (past-run plan (book_after plan book event) later) (go (book_after plan book event) (said plan book event))
  where
    go : (after : Book) → Said plan book event after → SamePast plan after book
    go after (Said.taken z e) = rw e (past-step plan book event (code-taken plan book event z))
    go after (Said.refused n e) = rw e (past-refl plan book)
