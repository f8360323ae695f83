-- What crate `book` proves of a report and of a drop that are accepted, and of an opened book.
use Prim.Native.Nat.{ℕ, ◌-◌, ◌≤◌, ◌<◌}
use mathlib.Core.Path.{◌≡◌, refl, sym, ap, ◌∙◌}
use mathlib.Core.Logic.{◌≢◌}
use mathlib.Core.Bool.{Bool, true, false, not, cond}
use native.Mathlib.Omega.{arith}
use lib.Dec.{eqb}
use borrow.Author.Tests.{ne_eqb}
use Rattle.laws.proofs.Cases.{by_bool, by-eq}
use Rattle.theory.specs.Report.{next, drop_it}
use Rattle.theory.specs.Words.Events.{Accepts, AcceptsDrop, Event}
use Rattle.theory.proofs.Facts.{Sound}
use Rattle.theory.proofs.Reflect.{after-taken}
use Rattle.plan.specs.Answer.{refuse, granted}
use Rattle.plan.specs.Value.{is_accepted}
use Rattle.plan.specs.declared.Plan.{Plan}
use Rattle.book.specs.View.{plan_view, book_view}
use Rattle.book.specs.Sound.{is_sound}
use Rattle.book.specs.Open.{opened_on, opening_of}
use Rattle.book.specs.Report.{code_of, report_answer, reported_of}
use Rattle.book.specs.Drop.{drop_code_of, drop_answer, dropped_of}
use Rattle.book.specs.Words.Event.{book_told}
use Rattle.book.specs.declared.Book.{Book}
use Rattle.book.specs.declared.BookResult.{BookResult}
use Rattle.book.specs.declared.Rule.{Rule}
use Rattle.book.proofs.Sizes.{Sized, plan-opened}
use Rattle.book.proofs.Soundness.{is-sound-facts}
use Rattle.book.proofs.ReportLaws.{code-zero, drop-zero, sound-plan}
use Rattle.book.proofs.Reports.{theory_task, theory_event, code-seen-by, event-plan, event-sized, event-sound, event-view}

-- code 0 is answered of a sound book alone
answer-zero :
    (sound : Bool) (code a b : ℕ) → (cond (not sound) (refuse 9 0 0) (cond (eqb code 0) granted (refuse code a b))).code ≡ 0
    → (sound ≡ true) × (code ≡ 0)
answer-zero true code a b h =
    by-eq code 0 (λ z. (refl, z)) (λ n. let q : code ≡ 0 = rw (ne_eqb code 0 n) at h in absurd (n q))
answer-zero false code a b h = absurd (omega arith)

theory-task : (tasks task : ℕ) → 0 < task → theory_task tasks task ≡ task - 1
theory-task tasks task h = let n : task ≢ 0 = omega arith in rw (ne_eqb task 0 n)

-- ---- a report

pub report-refused : (book : Book) (task tick : ℕ) → (reported_of book task tick).answer.code ≢ 0 → (reported_of book task tick).book ≡ book
unfolding reported_of
report-refused book task tick h = rw (ne_eqb (report_answer book task tick).code 0 h)

module _ (book : Book) (task tick : ℕ) (z : (reported_of book task tick).answer.code ≡ 0) where
  report-zero : (is_sound book ≡ true) × (code_of book task tick ≡ 0)
  unfolding reported_of report_answer
  report-zero = answer-zero (is_sound book) (code_of book task tick) task tick z

  pub report-few : book.tasks ≤ 64
  report-few = (sound-plan book report-zero.0).tasks-to

  pub report-some : 0 < task
  report-some = (code-zero book task tick report-zero.1).0

  pub report-accepts : Accepts (plan_view book) (book_view book) (task - 1) tick
  report-accepts = (code-zero book task tick report-zero.1).1

  pub report-sound : Sound (plan_view book) (book_view book)
  report-sound = ((is-sound-facts book).0 report-zero.0).sound

  pub report-tasks : (reported_of book task tick).book.tasks ≡ book.tasks
  report-tasks = ap (λ (p : Plan). p.tasks) (event-plan book report-zero.0 (Event.ends task tick))

  pub report-view : book_view (reported_of book task tick).book ≡ next (plan_view book) (book_view book) (task - 1) tick
  report-view =
      event-view book report-zero.0 (Event.ends task tick)
      ∙ after-taken (plan_view book) (book_view book) (theory_event book.tasks (Event.ends task tick))
      (sym (code-seen-by book (Event.ends task tick)) ∙ report-zero.1)
      ∙ ap (λ (k : ℕ). next (plan_view book) (book_view book) k tick) (theory-task book.tasks task report-some)

-- ---- a drop

pub drop-refused : (book : Book) (task : ℕ) → (dropped_of book task).answer.code ≢ 0 → (dropped_of book task).book ≡ book
unfolding dropped_of
drop-refused book task h = rw (ne_eqb (drop_answer book task).code 0 h)

module _ (book : Book) (task : ℕ) (z : (dropped_of book task).answer.code ≡ 0) where
  dropped-zero : (is_sound book ≡ true) × (drop_code_of book task ≡ 0)
  unfolding dropped_of drop_answer
  dropped-zero = answer-zero (is_sound book) (drop_code_of book task) task 0 z

  pub drop-few : book.tasks ≤ 64
  drop-few = (sound-plan book dropped-zero.0).tasks-to

  pub drop-some : 0 < task
  drop-some = (drop-zero book task dropped-zero.1).0

  pub drop-accepts : AcceptsDrop (plan_view book) (book_view book) (task - 1)
  drop-accepts = (drop-zero book task dropped-zero.1).1

  pub drop-tasks : (dropped_of book task).book.tasks ≡ book.tasks
  drop-tasks = ap (λ (p : Plan). p.tasks) (event-plan book dropped-zero.0 (Event.drops task))

  pub drop-view : book_view (dropped_of book task).book ≡ drop_it (book_view book) (task - 1)
  drop-view =
      event-view book dropped-zero.0 (Event.drops task)
      ∙ after-taken (plan_view book) (book_view book) (theory_event book.tasks (Event.drops task))
      (sym (code-seen-by book (Event.drops task)) ∙ dropped-zero.1)
      ∙ ap (λ (k : ℕ). drop_it (book_view book) k) (theory-task book.tasks task drop-some)

-- ---- who is answered by 0 hands on a sound book

module _ (book : Book) (task : ℕ) where
  pub report-stays : (tick : ℕ) {r : BookResult} → r ≡ reported_of book task tick → r.answer.code ≡ 0 → is_sound r.book ≡ true
  report-stays tick e z =
      rw e (event-sound book (report-zero book task tick (ap (λ (x : BookResult). x.answer.code) (sym e) ∙ z)).0 (Event.ends task tick))

  pub drop-stays : {r : BookResult} → r ≡ dropped_of book task → r.answer.code ≡ 0 → is_sound r.book ≡ true
  drop-stays e z =
      rw e (event-sound book (dropped-zero book task (ap (λ (x : BookResult). x.answer.code) (sym e) ∙ z)).0 (Event.drops task))

-- ---- the arrays keep their lengths

unsound-book : (book : Book) (event : Event) → is_sound book ≡ false → book_told book event ≡ book
unfolding reported_of report_answer dropped_of drop_answer
unsound-book book (Event.ends task tick) h = rw h
unsound-book book (Event.drops task) h = rw h

pub sized-told : (book : Book) (event : Event) → Sized book → Sized (book_told book event)
sized-told book event s = by_bool (is_sound book) (λ h. event-sized book h event s) (λ h. rw (unsound-book book event h) s)

-- ---- an opened book

module _ (plan : Plan) (rule : Rule) where
  pub opened-tasks : (opened_on plan rule).tasks ≡ plan.tasks
  opened-tasks = ap (λ (p : Plan). p.tasks) (plan-opened plan rule)

  pub opening-answer : is_accepted plan ≡ true → (opening_of plan rule).answer ≡ granted
  unfolding opening_of
  opening-answer h = rw h

  pub opening-book : is_accepted plan ≡ true → (opening_of plan rule).book ≡ opened_on plan rule
  unfolding opening_of
  opening-book h = rw h
