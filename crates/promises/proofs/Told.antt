-- What an accepted report or drop does, in the words of the promises.
use Prim.Native.Nat.{ℕ, ◌-◌, ◌<◌}
use native.Mathlib.Omega.{arith}
use mathlib.Core.Bool.{true}
use mathlib.Core.List.{List}
use mathlib.Core.Path.{◌≡◌, refl, sym, ap, subst, ◌∙◌}
use mathlib.Core.Logic.{◌≢◌, ◌↔◌}
use lib.ListN.{length}
use lib.Seq.{ext_get_or}
use borrow.Author.Tests.{eq-eqb, ne_eqb}
use Rattle.theory.specs.Plan as theory-plan
use Rattle.theory.specs.Book as theory-book
use Rattle.theory.specs.Report as theory-report
use Rattle.theory.specs.Words.Events.{Event, Accepts}
use Rattle.theory.proofs.Facts.{step_to}
use Rattle.theory.proofs.Reflect.{after-taken}
use Rattle.theory.proofs.Task.{skipped-now}
use Rattle.theory.proofs.Step.{AtTask, next-at, next-clock, next-dropped}
use Rattle.theory.proofs.Later.{next-ends}
use Rattle.theory.proofs.Order as order
use Rattle.theory.proofs.Reach.{drop-waits}
use Rattle.plan.specs.Value.{at}
use Rattle.plan.specs.declared.Answer.{Answer}
use Rattle.book.specs.View.{plan_view, book_view}
use Rattle.book.specs.Words.Sized.{Sized}
use Rattle.book.specs.Sound.{is_sound}
use Rattle.book.specs.Report.{code_of, reported_of}
use Rattle.book.specs.Drop.{drop_code_of, dropped_of}
use Rattle.book.specs.Words.Event.{book_told}
use Rattle.book.specs.declared.Book.{Book}
use Rattle.book.specs.declared.BookResult.{BookResult}
use Rattle.book_view.specs.View.{plan_for}
use Rattle.book.proofs.ReportLaws.{code-zero, drop-zero}
use Rattle.book.proofs.Reports.{code_in, theory_task, theory_event, code-seen-by, event-plan, event-rule, event-view}
use Rattle.promises.specs.Runs.{Waiting, Ended, Started, Dropped, start_of, end_of, WaitsFor, StartsExactly}
use Rattle.promises.specs.Says.{ReportSays}
use Rattle.promises.proofs.RunView.{Good, good-event, answer-code}
use Rattle.promises.proofs.SoundBook.{facts, all_ended}
use Rattle.promises.proofs.Codes.Book.{report-says}

-- a report or drop answered with code 0 has code 0
pub code-of :
    (book : Book) (task tick : ℕ) → is_sound book ≡ true → (reported_of book task tick).answer.code ≡ 0
    → code_of book task tick ≡ 0
code-of book task tick h z = sym (answer-code book h (Event.ends task tick)) ∙ z

pub drop-code-of : (book : Book) (task : ℕ) → is_sound book ≡ true → (dropped_of book task).answer.code ≡ 0 → drop_code_of book task ≡ 0
drop-code-of book task h z = sym (answer-code book h (Event.drops task)) ∙ z

-- what is seen of the book after one that is taken
view-taken :
    (book : Book) → Good book → (event : Event) → code_in book event ≡ 0
    → book_view (book_told book event) ≡ step_to (plan_view book) (book_view book) (theory_event book.tasks event)
view-taken book g event z =
    event-view book g.sound event
    ∙ after-taken (plan_view book) (book_view book) (theory_event book.tasks event) (sym (code-seen-by book event) ∙ z)

task-seen : (tasks task : ℕ) → 0 < task → theory_task tasks task ≡ task - 1
task-seen tasks task p = rw (ne_eqb task 0 (λ z. omega (arith, p, z)))

-- a report taken
module _ (book : Book) (g : Good book) (task tick : ℕ) (z : code_of book task tick ≡ 0) where
  ok : Accepts (plan_view book) (book_view book) (task - 1) tick
  ok = (code-zero book task tick z).1

  pub seen-after : book_view (reported_of book task tick).book ≡ theory-report.next (plan_view book) (book_view book) (task - 1) tick
  seen-after =
      view-taken book g (Event.ends task tick) z
      ∙ ap (λ (k : ℕ). theory-report.next (plan_view book) (book_view book) k tick) (task-seen book.tasks task (code-zero book task tick z).0)

  exact-after :
      (i : ℕ) → i < book.tasks → Waiting book i
      → order.StartsExactly (plan_view (reported_of book task tick).book) tick (book_view (reported_of book task tick).book) i
  exact-after i l w =
      let f = order.start-exact (plan_view book) (book_view book) (task - 1) tick ok (facts book g).sound i l w in
      let f' : order.StartsExactly (plan_view book) tick (book_view (reported_of book task tick).book) i = rw seen-after f in
      subst (λ (p : theory-plan.Plan). order.StartsExactly p tick (book_view (reported_of book task tick).book) i)
      (λ k. plan_for (sym (event-rule book g.sound (Event.ends task tick)) k) (sym (event-plan book g.sound (Event.ends task tick)) k)) f'

  pub report-starts : (i : ℕ) → i < book.tasks → Waiting book i → StartsExactly tick (reported_of book task tick).book i
  report-starts i l w =
      let f = exact-after i l w in
      let a = all_ended (reported_of book task tick).book (good-event book (Event.ends task tick) g) i in
      record {
        when_free = (λ n. a.0 (f.when_free.0 n), λ n. f.when_free.1 (a.1 n));
        at_tick = f.at_tick;
        runs = f.then_runs;
        skips = f.then-skips;
      }

  pub report-keeps :
      (i : ℕ) → i < book.tasks → Started book i
      → Started (reported_of book task tick).book i × (start_of (reported_of book task tick).book i ≡ start_of book i)
  report-keeps i l n =
      let s = order.start-kept (plan_view book) (book_view book) (task - 1) tick ok (facts book g).sound i l n in (
        λ m. s.0 (sym (ap (λ (b : theory-book.Book). b.mark i) seen-after) ∙ m),
        ap (λ (b : theory-book.Book). b.start i) seen-after ∙ s.1,
      )

  pub report-ends :
      Ended (reported_of book task tick).book (task - 1)
      × (end_of (reported_of book task tick).book (task - 1) ≡ tick)
      × ((reported_of book task tick).book.clock ≡ tick)
  report-ends =
      let r = next-ends (plan_view book) (book_view book) (task - 1) tick ok.task in (
        ap (λ (b : theory-book.Book). b.mark (task - 1)) seen-after ∙ r.0,
        ap (λ (b : theory-book.Book). b.end (task - 1)) seen-after ∙ r.1,
        ap (λ (b : theory-book.Book). b.clock) seen-after ∙ next-clock (plan_view book) (book_view book) (task - 1) tick,
      )

  pub others-stay :
      (i : ℕ) → i < book.tasks → i ≢ task - 1 → (Dropped book i → Started book i)
      → (Ended (reported_of book task tick).book i ↔ Ended book i) × (end_of (reported_of book task tick).book i ≡ end_of book i)
  others-stay i l n kept = go _ seen-after (next-at (plan_view book) (book_view book) (task - 1) tick i l)
    where
      go :
          (b : theory-book.Book) → book_view (reported_of book task tick).book ≡ b
          → AtTask (plan_view book) (book_view book) (task - 1) tick b i
          → (Ended (reported_of book task tick).book i ↔ Ended book i) × (end_of (reported_of book task tick).book i ≡ end_of book i)
      go b e (AtTask.ends q m s v) = absurd (n q)
      go b e (AtTask.starts q w all m s v) =
          let c = ap (λ (x : theory-book.Book). x.mark i) e in
          ((λ h. absurd (omega arith), λ h. absurd (omega arith)), ap (λ (x : theory-book.Book). x.end i) e ∙ v)
      go b e (AtTask.skipped q w d all m s v) = absurd (kept d w)
      go b e (AtTask.stands q w m s v) =
          let c = ap (λ (x : theory-book.Book). x.mark i) e in
          ((λ h. sym m ∙ sym c ∙ h, λ h. c ∙ m ∙ h), ap (λ (x : theory-book.Book). x.end i) e ∙ v)
      go b e (AtTask.lingers q w all m s v) =
          let c = ap (λ (x : theory-book.Book). x.mark i) e in
          ((λ h. sym m ∙ sym c ∙ h, λ h. c ∙ m ∙ h), ap (λ (x : theory-book.Book). x.end i) e ∙ v)

-- arrays of one length that are seen as the same are the same
same-array : (these those : List ℕ) → length these ≡ 64 → length those ≡ 64 → ((j : ℕ) → at these j ≡ at those j) → these ≡ those
same-array these those l m seen = ext_get_or 0 these those (l ∙ sym m) (λ j h. seen j)

-- a report leaves the drops as they were, taken or refused
pub report-drops : (book : Book) → Sized book → (task tick : ℕ) → (reported_of book task tick).book.dropped ≡ book.dropped
report-drops book size task tick = go (report-says book task tick)
  where
    go : ReportSays book task tick (reported_of book task tick) → (reported_of book task tick).book.dropped ≡ book.dropped
    go (ReportSays.taken h e) =
        let g : Good book = record { sized = size; sound = h } in
        let z = code-of book task tick h (ap (λ (x : Answer). x.code) e) in
        same-array (reported_of book task tick).book.dropped book.dropped
        (good-event book (Event.ends task tick) g).sized.dropped size.dropped
        (λ j.
        ap (λ (b : theory-book.Book). b.dropped j) (seen-after book g task tick z)
        ∙ ap (λ (d : ℕ → ℕ). d j) (next-dropped (plan_view book) (book_view book) (task - 1) tick))
    go (ReportSays.unsound h e) = ap (λ (x : BookResult). x.book.dropped) e
    go (ReportSays.refused code h l m e) = ap (λ (x : BookResult). x.book.dropped) e

-- a drop taken marks its task and changes nothing else
module _ (book : Book) (g : Good book) (task : ℕ) (z : drop_code_of book task ≡ 0) where
  seen-drop : book_view (dropped_of book task).book ≡ theory-report.drop_it (book_view book) (task - 1)
  seen-drop =
      view-taken book g (Event.drops task) z
      ∙ ap (λ (k : ℕ). theory-report.drop_it (book_view book) k) (task-seen book.tasks task (drop-zero book task z).0)

  size-after : Sized (dropped_of book task).book
  size-after = (good-event book (Event.drops task) g).sized

  pub drop-marks : Dropped (dropped_of book task).book (task - 1)
  drop-marks = ap (λ (b : theory-book.Book). b.dropped (task - 1)) seen-drop ∙ rw (eq-eqb (task - 1) (task - 1) refl)

  pub drop-others : (i : ℕ) → i ≢ task - 1 → at (dropped_of book task).book.dropped i ≡ at book.dropped i
  drop-others i n = ap (λ (b : theory-book.Book). b.dropped i) seen-drop ∙ rw (ne_eqb i (task - 1) n)

  pub drop-rest :
      ((dropped_of book task).book.clock ≡ book.clock) × ((dropped_of book task).book.mark ≡ book.mark)
      × ((dropped_of book task).book.start ≡ book.start) × ((dropped_of book task).book.end ≡ book.end)
  drop-rest = (
    ap (λ (b : theory-book.Book). b.clock) seen-drop,
    same-array _ _ size-after.mark g.sized.mark (λ j. ap (λ (b : theory-book.Book). b.mark j) seen-drop),
    same-array _ _ size-after.start g.sized.start (λ j. ap (λ (b : theory-book.Book). b.start j) seen-drop),
    same-array _ _ size-after.end g.sized.end (λ j. ap (λ (b : theory-book.Book). b.end j) seen-drop),
  )

-- a dropped task takes no time
pub dropped-at-once :
    (book : Book) (g : Good book) (i : ℕ) → i < book.tasks → Dropped book i → Started book i
    → Ended book i × (end_of book i ≡ start_of book i)
dropped-at-once book g i l d n = let s = skipped-now ((facts book g).sound.task i l) n d in (s.0, s.1)

-- and is one that waits for somebody
pub dropped-waits :
    (book : Book) (g : Good book) (i : ℕ) → i < book.tasks → Dropped book i → (j : ℕ) × (j < book.tasks) × WaitsFor book i j
dropped-waits book g i l d =
    let w = drop-waits ((facts book g).sound.task i l) d in
    (w.who, w.task, w.held)
