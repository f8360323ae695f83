-- What the figure says of later reports and drops on a book.
use Prim.Native.Nat.{ℕ, ◌+◌, ◌≤◌}
use native.Mathlib.Omega.{arith}
use mathlib.Core.Bool.{true}
use mathlib.Core.Path.{◌≡◌, refl, sym, ap, subst, ◌∙◌}
use mathlib.Core.Logic.{◌≢◌, ◌↔◌, ⊎_elim}
use mathlib.Core.List.Memᴰ
use mathlib.Core.List.{List, [], ◌∷◌, map}
use Rattle.theory.specs.Book as theory-book
use Rattle.theory.specs.Words.Events.{Event, IsReport}
use Rattle.theory.proofs.Facts.{run}
use Rattle.theory.proofs.Largest as largest
use Rattle.book.specs.View.{plan_view, book_view}
use Rattle.book.specs.declared.Book.{Book}
use Rattle.book.specs.Early.{figure_of}
use Rattle.book.proofs.Reports.{theory_event}
use Rattle.ask_exact.specs.Figure.{exact_of}
use Rattle.promises.specs.Runs.{Sized, book_after, AllInRange}
use Rattle.promises.proofs.InRange.{accepted-in-range}
use Rattle.promises.proofs.RunView.{Good, named, view-run}
use Rattle.promises.proofs.SoundBook.{view-named, accepted-named}
use Rattle.promises_ask.specs.Exact.{AllReports, EarlyIn, IsTrue, Exactly}
use Rattle.promises_ask.proofs.Shown.{not_begun, known-sound, sound-facts, lawful, known_some}

-- reports as the theory counts tasks are reports
reports-named : (rs : List Event) → AllReports rs → AllReports (map named rs)
reports-named [] all event m = absurd (Memᴰ.not-nil m)
reports-named (r ∷ rs) all event m =
    ⊎_elim (λ q. subst IsReport (sym q) (one r (all r (Memᴰ.head refl)))) (reports-named rs (λ e t. all e (Memᴰ.tail t)) event)
    (Memᴰ.cases_cons m)
  where
    one : (r : Event) → IsReport r → IsReport (named r)
    one (Event.ends task tick) h = tt
    one (Event.drops task) h = h

module _ (book : Book) (size : Sized book) (known : (exact_of book).known ≡ true) where
  good : Good book
  good = record { sized = size; sound = known-sound book known }

  abbrev seen : theory-book.Book
  seen = book_view book

  pub kept : (events : List Event) → EarlyIn book (exact_of book).early (book_after book events)
  kept events i l n s =
      let h = (not_begun book i).1 n in
      let v = view-run book events good in
      let after = run (plan_view book) seen (map (theory_event book.tasks) events) in
      let m : after.mark i ≢ 0 = λ z. s (ap (λ (b : theory-book.Book). b.mark i) v ∙ z) in
      let k =
      largest.exact-kept (plan_view book) (lawful book good.sound) seen (sound-facts book good.sound).sound (exact_of book).early
      (known_some book known) (map (theory_event book.tasks) events) i l h m in
      let e = ap (λ (b : theory-book.Book). b.start i) v in
      omega (arith, k, e)

  pub met : Exactly book (exact_of book).early
  met =
      let x =
      largest.exact-met (plan_view book) (lawful book good.sound) seen (sound-facts book good.sound).sound (exact_of book).early
      (known_some book known) in
      let rs = x.events in
      let e = accepted-named book good rs x.each in
      let v = view-named book good rs in
      record {
        events = map named rs;
        each_accepted = e;
        reports = reports-named rs x.reports;
        in_range = subst AllInRange e (accepted-in-range book (map named rs) good);
        who = x.who;
        task = x.task;
        not_begun = (not_begun book x.who).0 x.not_yet;
        starts = λ z. x.starts (sym (ap (λ (b : theory-book.Book). b.mark x.who) v) ∙ z);
        early_is = ap (λ (b : theory-book.Book). b.start x.who + (exact_of book).early) v ∙ x.early_is;
      }

  pub true-exactly : (early : ℕ) → IsTrue book early ↔ (early ≤ (exact_of book).early)
  true-exactly early = (
    λ t.
        let x = met in
        let k = t x.events x.reports x.who x.task x.not_begun x.starts in
        let e = x.early_is in
        omega (arith, k, e),
    λ le events reports i l n s. let k = kept events i l n s in omega (arith, k, le),
  )

  pub figure-under : (figure_of book).early ≤ (exact_of book).early
  unfolding figure_of
  figure-under =
      rw good.sound
      (largest.figure-under (plan_view book) (lawful book good.sound) seen (sound-facts book good.sound).sound (exact_of book).early
      (known_some book known))
