-- The full-length run: from the book on, accepted reports alone lead to the timetable of full lengths.
use mathlib.Core.Path.{◌≡◌, refl, sym, ap, ◌∙◌}
use mathlib.Core.Logic.{◌≢◌, ⊎_elim}
use mathlib.Core.Bool.{true, false}
use mathlib.Core.List.Memᴰ
use mathlib.Core.List.{List, [], ◌∷◌, Memᴰ}
use Prim.Native.Nat.{ℕ, zero, suc, ◌≤◌, ◌<◌}
use native.Mathlib.Omega.{arith}
use Rattle.laws.specs.Every.{any}
use borrow.Author.Tests.{eqb-true}
use Rattle.laws.proofs.Cases.{by_bool, by-eq, true-false}
use Rattle.laws.proofs.Every.{any_of, any_at}
use Rattle.laws.proofs.Least.{has-least}
use Rattle.laws.proofs.Latest.{latest-under, latest-over}
use Rattle.laws.specs.Private.Count.{count}
use Rattle.theory.specs.Plan.{Plan}
use Rattle.theory.specs.Book.{Book, ended}
use Rattle.theory.specs.Report.{next}
use Rattle.theory.specs.Words.Events.{Event, IsReport}
use Rattle.theory.proofs.Facts.{Sound, Lawful, run, accepted, event_code, step_to}
use Rattle.theory.proofs.Reflect.{accepts-code}
use Rattle.theory.proofs.Task.{mark-range, drop-range, waiting-why, runs_on}
use Rattle.theory.proofs.Step.{sound-next}
use Rattle.theory.proofs.Run.{run_none, accepted-none, run-taken, accepted-taken}
use Rattle.theory.proofs.Later.{Later}
use Rattle.theory.proofs.Same.{SameDrops}
use Rattle.theory.proofs.Feed.{lacking, lacking-at, lacking-of, NoneBefore, ended-before, first-accepted, first-before, first-drops, first-fewer}
use Rattle.theory.proofs.Solved.{sooner}
use Rattle.theory.proofs.Bounds.{waits_end, end-dropped, end_kept}
use Rattle.theory.proofs.Target.{target, target_sound, drop-is, drop-not}
use Rattle.theory.proofs.Fed.{Done}
use Rattle.theory.specs.Exact.{full_length, full_start}
use Rattle.theory.proofs.Full.{full_end, full-fits, full-lines, keeps-ends, keeps-starts, runs-full}

-- accepted reports, and no drops, after which every task has ended as the goal says
pub record Reports (plan : Plan) (goal book : Book) : Type 0 where
  pub events : List Event
  pub reports : (event : Event) → Memᴰ event events → IsReport event
  pub each : accepted plan book events ≡ events
  pub done : Done plan goal (run plan book events)

reports-more :
    (plan : Plan) (goal book : Book) (k tick : ℕ) → event_code plan book (Event.ends k tick) ≡ 0
    → Reports plan goal (step_to plan book (Event.ends k tick)) → Reports plan goal book
reports-more plan goal book k tick z t = record {
  events = Event.ends k tick ∷ t.events;
  reports = λ event m. ⊎_elim (λ e. rw e tt) (λ later. t.reports event later) (Memᴰ.cases_cons m);
  each =
      accepted-taken plan book (Event.ends k tick) t.events z ∙ ap (λ (es : List Event). Event.ends k tick ∷ es) t.each;
  done = rw (run-taken plan book (Event.ends k tick) t.events z) t.done;
}

-- towards any later book of the same drops in which every task has ended
module _ (plan : Plan) (law : Lawful plan) (goal : Book) (sound : Sound plan goal)
    (over : (i : ℕ) → i < plan.tasks → goal.mark i ≡ 2) where
  nothing_left :
      (book : Book) → Sound plan book → Later plan book goal → SameDrops plan book goal
      → any plan.tasks (lacking goal book) ≡ false → Done plan goal book
  nothing_left book sound' before drops none = record {
    over = ends;
    starts = λ i l. let o = ends i l in sym (before.started-stay i l (omega arith)).1;
    ends = λ i l. sym (before.ended-stay i l (ends i l)).1;
  }
    where
      first : (tick : ℕ) → NoneBefore plan goal book tick
      first tick j l d m n = true-false (any_of plan.tasks (lacking goal book) j l (lacking-of goal book j d m n)) none

      ends : (i : ℕ) → i < plan.tasks → book.mark i ≡ 2
      ends i l = ended-before plan law goal sound book sound' drops (suc (goal.end i)) (first _) i l (over i l) (omega arith)

  feed :
      (n : ℕ) (book : Book) → Sound plan book → Later plan book goal → SameDrops plan book goal
      → count plan.tasks (lacking goal book) < n → Reports plan goal book
  feed zero book sound' before drops f = absurd (omega arith)
  feed (suc n) book sound' before drops f =
      by_bool (any plan.tasks (lacking goal book))
      (λ a.
      let r = any_at plan.tasks (lacking goal book) a in
      let m = has-least plan.tasks (lacking goal book) goal.end r.0 r.1 r.2 in
      let k = m.who in
      let tick = goal.end k in
      let w = lacking-at goal book k m.picked in
      let first : NoneBefore plan goal book tick = λ j l d h n'. m.least-of j l (lacking-of goal book j d h n') in
      let ok = first-accepted plan law goal sound book sound' before drops k m.below w.0 w.1 w.2 first in
      let fewer = first-fewer plan law goal sound book sound' before drops k m.below w.0 w.1 w.2 first in
      reports-more plan goal book k tick (accepts-code plan book k tick ok)
      (feed n (next plan book k tick) (sound-next plan book k tick ok sound')
      (first-before plan law goal sound book sound' before drops k m.below w.0 w.1 w.2 first)
      (first-drops plan law goal sound book sound' before drops k m.below w.0 w.1 w.2 first) (omega arith)))
      (λ a. record {
        events = [];
        reports = λ event m. absurd (Memᴰ.not-nil m);
        each = accepted-none plan book;
        done = rw (run_none plan book) (nothing_left book sound' before drops a);
      })

module _ (plan : Plan) (law : Lawful plan) (book : Book) (sound : Sound plan book) where
  abbrev pub full_book : Book
  full_book = target plan (full_length plan book) book.dropped

  full-sound : Sound plan full_book
  full-sound = target_sound plan (full_length plan book) book.dropped law (full-fits plan law book sound)

  full-drops : SameDrops plan book full_book
  full-drops j l =
      let r = drop-range (sound.task j l) in
      by-eq (book.dropped j) 1
      (λ d. d ∙ sym (drop-is plan (full_length plan book) book.dropped j d))
      (λ n. let e = drop-not plan (full_length plan book) book.dropped j n in omega arith)

  -- nobody starts after it has ended
  start-end : (j : ℕ) → j < plan.tasks → full_start plan book j ≤ full_end plan book j
  start-end j l =
      by-eq (book.dropped j) 1
      (λ d. let e = end-dropped plan _ _ _ _ (full-lines plan law book sound) j l d in omega arith)
      (λ n. let e = end_kept plan _ _ _ _ (full-lines plan law book sound) j l n in omega arith)

  -- whoever has not ended does so at the clock or later: by induction on the planned start
  ends-from : (n j : ℕ) → plan.begin j < n → j < plan.tasks → book.mark j ≢ 2 → book.clock ≤ full_end plan book j
  ends-from zero j f l m = absurd (omega arith)
  ends-from (suc n) j f l m =
      by-eq (book.mark j) 1
      (λ r. let c = runs_on (sound.task j l) r in let e = runs-full plan law book sound j l r in omega arith)
      (λ r.
      let range = mark-range (sound.task j l) in
      let b = waiting-why (sound.task j l) (omega arith) in
      let s = sooner plan law j b.who l b.task b.held in
      let q = ends-from n b.who (omega arith) b.task b.still in
      let w = waits_end plan _ _ _ _ (full-lines plan law book sound) j b.who l b.task b.held in
      let e = start-end j l in
      omega arith)

  full-clock : book.clock ≤ full_book.clock
  full-clock =
      let c = sound.clock-is in
      let u = latest-under plan.tasks (ended book.mark) book.end full_book.clock (λ j l h.
      let e = keeps-ends plan law book sound j l (eqb-true (book.mark j) 2 h) in
      let o = latest-over plan.tasks (λ i. true) (full_end plan book) j l refl in
      omega arith) in
      omega arith

  full-later : Later plan book full_book
  full-later = record {
    clocks = full-clock;
    ended-stay = λ j l h. (refl, keeps-ends plan law book sound j l h);
    started-stay = λ j l h. ((λ e. omega arith), keeps-starts plan law book sound j l h);
    drops-stay = λ j l h. drop-is plan (full_length plan book) book.dropped j h;
    new-ends = λ j l n h. ends-from (suc (plan.begin j)) j (omega arith) l n;
  }

  -- some accepted reports, and no drops, start every task as the full lengths do
  pub full-run : Reports plan full_book book
  full-run =
      feed plan law full_book full-sound (λ i l. refl) (suc (count plan.tasks (lacking full_book book))) book sound full-later
      full-drops (omega arith)
