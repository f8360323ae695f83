-- What every run of reports and drops has: its figure never falls, refused ones change nothing, none is accepted twice.
use Prim.Native.Nat.{ℕ, ◌≤◌, ◌<◌}
use mathlib.Core.Bool.{true, false}
use mathlib.Core.List.{List, [], ◌∷◌, ◌++◌, map}
use mathlib.Core.Path.{◌≡◌, refl, sym, ap, ◌∙◌}
use Rattle.laws.proofs.Cases.{by_bool}
use Rattle.theory.specs.Book as theory-book
use Rattle.theory.specs.Words.Events.{Event, Once}
use Rattle.theory.proofs.Facts.{accepted}
use Rattle.theory.proofs.Grows.{figure-grows}
use Rattle.theory.proofs.Once as once
use Rattle.plan.specs.Answer.{is_granted}
use Rattle.plan.specs.Value.{is_accepted}
use Rattle.plan.specs.declared.Plan.{Plan}
use Rattle.book.specs.View.{plan_view, book_view}
use Rattle.book.specs.Early.{figure_of}
use Rattle.book.specs.Words.Event.{answer_to, book_told}
use Rattle.book.specs.Report.{reported_of}
use Rattle.book.specs.Drop.{dropped_of}
use Rattle.book.specs.Words.Sized.{SizedPlan}
use Rattle.book.specs.declared.Book.{Book}
use Rattle.book.specs.declared.Rule.{Rule}
use Rattle.book.proofs.Reports.{theory_event}
use Rattle.promises.specs.Runs.{book_after, accepted_of, opened_book, run_of, Ended}
use Rattle.promises.proofs.RunView.{Good, named, mem-back, accepted-seen, after-append}
use Rattle.promises.proofs.SoundRun.{OnPlan, seen-plan, law, on-run, sound-on, figure-is, later-is}

-- M never falls while some task has not ended
module _ (plan : Plan) (rule : Rule) (size : SizedPlan plan) (ok : is_accepted plan ≡ true) where
  grows-on :
      (book : Book) → OnPlan plan rule book → (later : List Event) → OnPlan plan rule (book_after book later) → (i : ℕ)
      → i < plan.tasks → (Ended (book_after book later) i → ⊥) → (figure_of book).early ≤ (figure_of (book_after book later)).early
  grows-on book on later on' i l n =
      let seen = later-is plan rule size ok book on later in
      let grown =
      figure-grows (seen-plan plan rule size ok) (law plan rule size ok) (book_view book) (sound-on plan rule size ok book on)
      (map (theory_event plan.tasks) later) i l (λ e. n (ap (λ (b : theory-book.Book). b.mark i) seen ∙ e)) in
      rw (figure-is plan rule size ok book on, figure-is plan rule size ok (book_after book later) on', seen) grown

  pub figure-rises :
      (events later : List Event) (i : ℕ) → i < plan.tasks → (Ended (run_of plan rule (events ++ later)) i → ⊥)
      → (figure_of (run_of plan rule events)).early ≤ (figure_of (run_of plan rule (events ++ later))).early
  figure-rises events later i l n =
      let e = after-append (opened_book plan rule) events later in
      let on : OnPlan plan rule (book_after (run_of plan rule events) later) = rw e at (on-run plan rule size ok (events ++ later)) in
      rw e (grows-on (run_of plan rule events) (on-run plan rule size ok events) later on i l (rw e at n))

-- a refused report or drop gives the book it was given
refused-told : (book : Book) (event : Event) → is_granted (answer_to book event) ≡ false → book_told book event ≡ book
unfolding reported_of dropped_of
refused-told book (Event.ends task tick) h = rw h
refused-told book (Event.drops task) h = rw h

pub accepted-alone : (book : Book) (events : List Event) → book_after book (accepted_of book events) ≡ book_after book events
unfolding book_after accepted_of
accepted-alone book [] = refl
accepted-alone book (event ∷ later) =
    by_bool (is_granted (answer_to book event))
    (λ h. rw h (accepted-alone (book_told book event) later))
    (λ h.
    let same = refused-told book event h in
    rw h (ap (λ (b : Book). book_after b (accepted_of (book_told book event) later)) (sym same) ∙ accepted-alone (book_told book event) later))

-- none is accepted twice
once-named : (l : List Event) → Once l → Once (map named l)
once-named [] o = tt
once-named (e ∷ l) o = (λ m. o.0 (mem-back l m), once-named l o.1)

pub accepted-once : (book : Book) (events : List Event) → Good book → Once (accepted_of book events)
accepted-once book events g =
    rw (accepted-seen book events g)
    (once-named (accepted (plan_view book) (book_view book) (map (theory_event book.tasks) events)) (once.accepted-once (plan_view book) (book_view book) (map (theory_event book.tasks) events)))
