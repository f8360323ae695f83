-- A report or drop on a sound book is the theory's on its view; the book stays sound and sized, its plan stays.
use Prim.Native.Nat.{ℕ, ◌-◌}
use native.Mathlib.Omega.{arith}
use mathlib.Core.Bool.{true, cond}
use mathlib.Core.Path.{◌≡◌, sym, ap, ◌∙◌}
use mathlib.Core.Logic.{◌≢◌}
use lib.Dec.{eqb}
use borrow.Author.Tests.{eq-eqb, ne_eqb, le-leb}
use Rattle.laws.proofs.Cases.{by-eq}
use Rattle.theory.specs.Report.{report_code, drop_code}
use Rattle.theory.specs.Words.Events.{Event}
use Rattle.theory.proofs.Facts.{event_code, step_to, book_after}
use Rattle.theory.proofs.Reflect.{after-taken, after-refused}
use Rattle.book.specs.View.{plan_in, plan_view, book_view}
use Rattle.book.specs.Sound.{is_sound}
use Rattle.book.specs.Report.{code_of, next_book}
use Rattle.book.specs.Drop.{drop_code_of, dropped_in}
use Rattle.book.specs.Words.Event.{book_told}
use Rattle.book.specs.declared.Book.{Book}
use Rattle.book.proofs.Sizes.{Sized, sized-next, plan-next, rule-next, sized-dropped, plan-dropped, rule_dropped}
use Rattle.book.proofs.Views.{view-next, view-dropped}
use Rattle.book.proofs.Soundness.{is-sound-facts, next-is-sound, dropped-is-sound}
use Rattle.book.proofs.ReportLaws.{code-zero, drop-zero, sound-plan, book-refused, book-granted, drop-refused-book, drop-granted-book}

-- the code of a report or drop from 10 on, and the book after one that is accepted
abbrev pub code_in : Book → Event → ℕ
code_in book (Event.ends task tick) = code_of book task tick
code_in book (Event.drops task) = drop_code_of book task

abbrev pub step_in : Book → Event → Book
step_in book (Event.ends task tick) = next_book book (task - 1) tick
step_in book (Event.drops task) = dropped_in book (task - 1)

-- the theory's number of a task; task 0 is nobody, as T is
abbrev pub theory_task : ℕ → ℕ → ℕ
theory_task tasks task = cond (eqb task 0) tasks (task - 1)

abbrev pub theory_event : ℕ → Event → Event
theory_event tasks (Event.ends task tick) = Event.ends (theory_task tasks task) tick
theory_event tasks (Event.drops task) = Event.drops (theory_task tasks task)

pub code-seen-by : (book : Book) (event : Event) → code_in book event ≡ event_code (plan_view book) (book_view book) (theory_event book.tasks event)
unfolding code_of report_code drop_code_of drop_code
code-seen-by book (Event.ends task tick) =
    by-eq task 0
    (λ z. rw (eq-eqb task 0 z, le-leb book.tasks book.tasks (omega arith)))
    (λ n. rw (ne_eqb task 0 n))
code-seen-by book (Event.drops task) =
    by-eq task 0
    (λ z. rw (eq-eqb task 0 z, le-leb book.tasks book.tasks (omega arith)))
    (λ n. rw (ne_eqb task 0 n))

step-plan : (book : Book) (event : Event) → plan_in (step_in book event) ≡ plan_in book
step-plan book (Event.ends task tick) = plan-next book (task - 1) tick
step-plan book (Event.drops task) = plan-dropped book (task - 1)

step-rule : (book : Book) (event : Event) → (step_in book event).rule ≡ book.rule
step-rule book (Event.ends task tick) = rule-next book (task - 1) tick
step-rule book (Event.drops task) = rule_dropped book (task - 1)

step-sized : (book : Book) (event : Event) → Sized book → Sized (step_in book event)
step-sized book (Event.ends task tick) s = sized-next book (task - 1) tick s
step-sized book (Event.drops task) s = sized-dropped book (task - 1) s

module _ (book : Book) (h : is_sound book ≡ true) where
  step-sound : (event : Event) → code_in book event ≡ 0 → is_sound (step_in book event) ≡ true
  step-sound (Event.ends task tick) z = next-is-sound book h (task - 1) tick (code-zero book task tick z).1
  step-sound (Event.drops task) z = dropped-is-sound book h (task - 1) (drop-zero book task z).1

  step-view :
      (event : Event) → code_in book event ≡ 0
      → book_view (step_in book event) ≡ step_to (plan_view book) (book_view book) (theory_event book.tasks event)
  step-view (Event.ends task tick) z =
      let r = code-zero book task tick z in
      let n : task ≢ 0 = omega (arith, r.0) in
      rw (ne_eqb task 0 n)
      (view-next book (sound-plan book h).tasks-to ((is-sound-facts book).0 h).past (task - 1) tick r.1.task)
  step-view (Event.drops task) z =
      let r = drop-zero book task z in
      let n : task ≢ 0 = omega (arith, r.0) in
      rw (ne_eqb task 0 n)
      (view-dropped book (sound-plan book h).tasks-to ((is-sound-facts book).0 h).past (task - 1) r.1.task)

pub data Told (book : Book) (event : Event) (after : Book) : Type 0 where
  taken : code_in book event ≡ 0 → after ≡ step_in book event → Told book event after
  refused : code_in book event ≢ 0 → after ≡ book → Told book event after

module _ (book : Book) (h : is_sound book ≡ true) where
  pub told : (event : Event) → Told book event (book_told book event)
  told (Event.ends task tick) =
      by-eq (code_of book task tick) 0
      (λ z. Told.taken z (book-granted book task tick h z))
      (λ n. Told.refused n (book-refused book task tick h n))
  told (Event.drops task) =
      by-eq (drop_code_of book task) 0
      (λ z. Told.taken z (drop-granted-book book task h z))
      (λ n. Told.refused n (drop-refused-book book task h n))

  module _ (event : Event) where
    pub event-plan : plan_in (book_told book event) ≡ plan_in book
    event-plan = go (book_told book event) (told event)
      where
        go : (after : Book) → Told book event after → plan_in after ≡ plan_in book
        go after (Told.taken z e) = rw e (step-plan book event)
        go after (Told.refused n e) = rw e

    pub event-rule : (book_told book event).rule ≡ book.rule
    event-rule = go (book_told book event) (told event)
      where
        go : (after : Book) → Told book event after → after.rule ≡ book.rule
        go after (Told.taken z e) = rw e (step-rule book event)
        go after (Told.refused n e) = rw e

    pub event-sized : Sized book → Sized (book_told book event)
    event-sized s = go (book_told book event) (told event)
      where
        go : (after : Book) → Told book event after → Sized after
        go after (Told.taken z e) = rw e (step-sized book event s)
        go after (Told.refused n e) = rw e s

    pub event-sound : is_sound (book_told book event) ≡ true
    event-sound = go (book_told book event) (told event)
      where
        go : (after : Book) → Told book event after → is_sound after ≡ true
        go after (Told.taken z e) = rw e (step-sound book h event z)
        go after (Told.refused n e) = rw e h

    pub event-view :
        book_view (book_told book event) ≡ book_after (plan_view book) (book_view book) (theory_event book.tasks event)
    event-view = go (book_told book event) (told event)
      where
        go :
            (after : Book) → Told book event after
            → book_view after ≡ book_after (plan_view book) (book_view book) (theory_event book.tasks event)
        go after (Told.taken z e) =
            ap (λ (x : Book). book_view x) e ∙ step-view book h event z
            ∙ sym (after-taken (plan_view book) (book_view book) (theory_event book.tasks event) (sym (code-seen-by book event) ∙ z))
        go after (Told.refused n e) =
            ap (λ (x : Book). book_view x) e
            ∙ sym
            (after-refused (plan_view book) (book_view book) (theory_event book.tasks event) (λ z. n (code-seen-by book event ∙ z)))
