-- What the theory says of a sound book, in the words of the promises.
use Prim.Native.Nat.{ℕ, ◌+◌, ◌≤◌, ◌<◌}
use native.Mathlib.Omega.{arith}
use mathlib.Core.Bool.{true}
use mathlib.Core.List.Memᴰ
use mathlib.Core.List.{List, [], ◌∷◌, map, Memᴰ}
use mathlib.Core.Path.{◌≡◌, refl, sym, ap, subst, ◌∙◌}
use mathlib.Core.Logic.{◌↔◌, ◌⊎◌, ⊎_elim}
use borrow.Author.Tests.{ne_eqb}
use Rattle.laws.proofs.Latest.{latest-over, latest-met, latest-none}
use Rattle.theory.specs.Book as theory-book
use Rattle.theory.specs.Report as theory-report
use Rattle.theory.specs.Words.Events.{Event, IsReport}
use Rattle.theory.proofs.Facts.{Lawful, run, accepted}
use Rattle.theory.proofs.Reflect.{all-ended-at, all-ended-of}
use Rattle.theory.proofs.Task.{waiting-why, started-all, free-started, ended-within, end-by-clock}
use Rattle.theory.proofs.Order as order
use Rattle.theory.proofs.Progress as progress
use Rattle.plan.specs.Answer.{granted}
use Rattle.plan.specs.Value.{at}
use Rattle.book.specs.View.{plan_in, plan_view, book_view}
use Rattle.book.specs.Report.{code_of, reported_of}
use Rattle.book.specs.declared.Book.{Book}
use Rattle.book_view.proofs.Accepted.{plan-lawful}
use Rattle.book.proofs.Soundness.{SoundFacts, is-sound-facts}
use Rattle.book.proofs.Reports.{theory_task, code-seen-by}
use Rattle.promises.specs.Runs.{book_after, accepted_of, Waiting, Running, Ended, Started, Dropped, start_of, end_of, NotBegun, limit_of, WaitsFor, due_of, start_due_of, AllEnded, AllInRange, Progress, Finishes}
use Rattle.promises.proofs.InRange.{limit-told, accepted-in-range}
use Rattle.promises.proofs.RunView.{Good, named, view-run, answer-granted, seen-named, accepted-seen}

-- task k + 1 of a report is the theory's k
code-named :
    (book : Book) (k tick : ℕ) → code_of book (k + 1) tick ≡ theory-report.report_code (plan_view book) (book_view book) k tick
code-named book k tick =
    let e : theory_task book.tasks (k + 1) ≡ k = rw (ne_eqb (k + 1) 0 (omega arith)) (omega arith) in
    code-seen-by book (Event.ends (k + 1) tick) ∙ ap (λ (x : ℕ). theory-report.report_code (plan_view book) (book_view book) x tick) e

module _ (book : Book) (g : Good book) (rs : List Event) where
  pub view-named : book_view (book_after book (map named rs)) ≡ run (plan_view book) (book_view book) rs
  view-named = view-run book (map named rs) g ∙ ap (run (plan_view book) (book_view book)) (seen-named book.tasks rs)

  pub accepted-named :
      accepted (plan_view book) (book_view book) rs ≡ rs → accepted_of book (map named rs) ≡ map named rs
  accepted-named e =
      accepted-seen book (map named rs) g
      ∙ ap (λ (l : List Event). map named (accepted (plan_view book) (book_view book) l)) (seen-named book.tasks rs)
      ∙ ap (λ (l : List Event). map named l) e

-- reports as the theory counts tasks are reports
reports-named : (rs : List Event) → ((event : Event) → Memᴰ event rs → IsReport event) → (event : Event) → Memᴰ event (map named rs) → IsReport event
reports-named [] all event m = absurd (Memᴰ.not-nil m)
reports-named (r ∷ rs) all event m =
    ⊎_elim (λ q. subst IsReport (sym q) (one r (all r (Memᴰ.head refl)))) (reports-named rs (λ e t. all e (Memᴰ.tail t)) event)
    (Memᴰ.cases_cons m)
  where
    one : (r : Event) → IsReport r → IsReport (named r)
    one (Event.ends task tick) h = tt
    one (Event.drops task) h = h

module _ (book : Book) where
  -- what due says
  pub due-over : (i j : ℕ) → j < book.tasks → WaitsFor book i j → end_of book j ≤ due_of book i
  due-over i j l w =
      latest-over book.tasks ((plan_view book).waits i) (at book.end) j l w

  pub due-met :
      (i : ℕ) → (due_of book i ≡ 0) ⊎ ((j : ℕ) × (j < book.tasks) × WaitsFor book i j × (end_of book j ≡ due_of book i))
  due-met i =
      latest-met book.tasks ((plan_view book).waits i) (at book.end)

  pub due-none : (i : ℕ) → ((j : ℕ) → j < book.tasks → WaitsFor book i j → ⊥) → due_of book i ≡ 0
  due-none i none =
      latest-none book.tasks ((plan_view book).waits i) (at book.end)
      (λ j l w. absurd (none j l w))

module _ (book : Book) (g : Good book) where
  pub facts : SoundFacts book
  facts = (is-sound-facts book).0 g.sound

  pub lawful : Lawful (plan_view book)
  lawful = plan-lawful (plan_in book) facts.accepted book.rule

  -- all it waits for have ended, as a test and as a fact
  pub all_ended : (i : ℕ) → (theory-book.all_ended (plan_view book) (at book.mark) i ≡ true) ↔ AllEnded book i
  all_ended i = (all-ended-at (plan_view book) (at book.mark) i, all-ended-of (plan_view book) (at book.mark) i)

  -- a start is the later of its ready tick and what is due; a dropped task's ready tick is ignored
  pub start-due : (i : ℕ) → i < book.tasks → Started book i → (Dropped book i → ⊥) → start_of book i ≡ start_due_of book i
  start-due = order.started-due (plan_view book) (book_view book) facts.sound

  pub skip-due : (i : ℕ) → i < book.tasks → Started book i → Dropped book i → start_of book i ≡ due_of book i
  skip-due = order.skipped-due (plan_view book) (book_view book) facts.sound

  -- a start that lies past the clock is the ready tick
  pub ahead-ready : (i : ℕ) → i < book.tasks → Started book i → book.clock < start_of book i → start_of book i ≡ at book.ready i
  ahead-ready = order.ready-ahead (plan_view book) (book_view book) facts.sound

  -- one whose start the clock has not reached has not ended
  pub unbegun-unended : (i : ℕ) → i < book.tasks → NotBegun book i → Ended book i → ⊥
  unbegun-unended i l not_yet e =
      let w = ended-within (facts.sound.task i l) e in
      let c = end-by-clock (facts.sound.task i l) in
      let q = not_yet (omega arith) in
      omega arith

  pub waiting-for : (i : ℕ) → i < book.tasks → Waiting book i → (j : ℕ) × (j < book.tasks) × WaitsFor book i j × (Ended book j → ⊥)
  waiting-for i l z =
      let b = waiting-why (facts.sound.task i l) z in
      (b.who, b.task, b.held, b.still)

  pub started-free : (i : ℕ) → i < book.tasks → Started book i ↔ AllEnded book i
  started-free i l = (
    λ n. (all_ended i).0 (started-all (facts.sound.task i l) n),
    λ f. free-started (facts.sound.task i l) ((all_ended i).1 f),
  )

  -- a running task of least limit is accepted at its limit
  pub least-accepted :
      (k : ℕ) → k < book.tasks → Running book k
      → ((j : ℕ) → j < book.tasks → Running book j → limit_of book k ≤ limit_of book j)
      → (reported_of book (k + 1) (limit_of book k)).answer ≡ granted
  least-accepted k l m least =
      let z = progress.limit-accepted (plan_view book) lawful (book_view book) facts.sound k l m least in
      answer-granted book g.sound (k + 1) (limit_of book k) (code-named book k (limit_of book k) ∙ z)

  pub progress-of : (i : ℕ) → i < book.tasks → (Ended book i → ⊥) → Progress book
  progress-of i l n =
      let p = progress.progress (plan_view book) lawful (book_view book) facts.sound i l n in
      record {
        who = p.who;
        task = p.task;
        runs = p.runs;
        least = p.least;
        taken = least-accepted p.who p.task p.runs p.least;
        in_range = limit-told book g p.who p.task p.runs;
      }

  pub finishes : Finishes book
  finishes =
      let f = progress.finishing (plan_view book) lawful (book_view book) facts.sound in
      let rs = f.way.events in
      let e = accepted-named book g rs f.way.each_accepted in
      record {
        events = map named rs;
        each_accepted = e;
        reports = reports-named rs f.reports;
        in_range = subst AllInRange e (accepted-in-range book (map named rs) g);
        all_ended = λ i l.
            ap (λ (b : theory-book.Book). b.mark i) (view-named book g rs ∙ f.way.leads) ∙ f.all_done i l;
      }
