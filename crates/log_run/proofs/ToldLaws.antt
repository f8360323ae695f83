-- What an entry is answered and prints, by the cases that the code tells apart.
use Prim.Native.Nat.{ℕ, ◌+◌, ◌*◌, ◌≤◌, ◌<◌}
use mathlib.Core.Bool.{true, cond}
use lib.Dec.{eqb}
use mathlib.Core.Path.{◌≡◌, refl, sym, ap}
use mathlib.Core.Logic.{◌≢◌}
use mathlib.Core.List.{List}
use native.Mathlib.Omega.{arith}
use lib.ListN.{length, replicate}
use borrow.Author.Tests.{eq-eqb, ne_eqb}
use Rattle.theory.specs.Figure.{minimum_early}
use Rattle.plan.specs.Answer.{refuse, granted}
use Rattle.plan.specs.declared.Answer.{Answer}
use Rattle.book.specs.View.{plan_view, book_view}
use Rattle.book.specs.Early.{figure_of}
use Rattle.book.specs.Sound.{is_sound}
use Rattle.book.specs.declared.Figure.{Figure}
use Rattle.book.proofs.ReportLaws.{figure-granted}
use Rattle.book.specs.Report.{reported_of}
use Rattle.book.specs.Drop.{dropped_of}
use Rattle.book.specs.declared.Book.{Book}
use Rattle.book.specs.declared.BookResult.{BookResult}
use Rattle.log_read.specs.Said.{Entry}
use Rattle.log_read.specs.Said.Entry.{End, Drop, Refused}
use Rattle.log_run.specs.Log.{shown_after, told_of}
use Rattle.log_run.specs.declared.StepOutcome.{StepOutcome}
use Rattle.log_write.specs.Lines.{Lined, refused_line}
use Rattle.log_write.specs.Private.Wrote.{Wrote}
use Rattle.log_run.specs.Lines.{run_line, early_line}
use Rattle.log_run.specs.Private.Writes.{starting, starts_in, started, opened_in, Named, lines_in, lines_most, told_in, told_most}
use Rattle.log_run.proofs.StartLaws.{count-below}
use Rattle.log_write.proofs.WriteLaws.{also, looser, wrote-length, wrote-line}

-- ---- the figure shown

module _ (code : ℕ) (book : Book) where
  pub early-refused : code ≢ 0 → 0 ≡ cond (eqb code 0) (figure_of book).early 0
  early-refused n = rw (ne_eqb code 0 n)

  pub early-granted :
      code ≡ 0 → is_sound book ≡ true → {early : ℕ}
      → early ≡ minimum_early (plan_view book) (book_view book)
      → early ≡ cond (eqb code 0) (figure_of book).early 0
  early-granted z h e =
      let f = ap (λ (x : Figure). x.early) (figure-granted book (sym h) {answer = granted} refl refl e) in
      rw (eq-eqb code 0 z) f

-- ---- the answer

module _ (n : ℕ) (book : Book) {e : Entry} where
  pub tell-end :
      {task tick : ℕ} {r : BookResult} {s : StepOutcome} → e ≡ End task tick → r ≡ reported_of book task tick → s ≡ shown_after r.answer r.book
      → s ≡ told_of n book e
  unfolding told_of
  tell-end p q t = rw (p, t, q)

  pub tell-drop :
      {task : ℕ} {r : BookResult} {s : StepOutcome} → e ≡ Drop task → r ≡ dropped_of book task → s ≡ shown_after r.answer r.book
      → s ≡ told_of n book e
  unfolding told_of
  tell-drop p q t = rw (p, t, q)

  pub tell-refused :
      {code column : ℕ} {a : Answer} → e ≡ Refused code column → a ≡ refuse code n column
      → ◌≡◌ {A = StepOutcome} (record { answer = a; book = book; early = 0 }) (told_of n book e)
  unfolding told_of
  tell-refused p q = rw (p, q)

-- ---- the task that is named

module _ {e : Entry} {task tasks : ℕ} where
  pub named_end : {tick : ℕ} → e ≡ End task tick → Named e tasks → (0 < task) × (task ≤ 64) × (tasks ≤ 64)
  named_end p h = rw p at h

  pub named-drop : e ≡ Drop task → Named e tasks → (0 < task) × (task ≤ 64) × (0 ≤ tasks)
  named-drop p h = rw p at h

pub lines-short : (e : Entry) (tasks : ℕ) {started : ℕ} → started ≤ tasks → Named e tasks → lines_most e started ≤ 3380
lines-short (End task tick) tasks h n = omega (arith, n.2)
lines-short (Drop task) tasks h n = omega arith
lines-short (Refused code column) tasks h n = omega arith

-- ---- the lines

module _ {out : List ℕ} {from : ℕ} (fits : from + 3432 ≤ length out) (e : Entry) (old : List ℕ) (told : StepOutcome) {m : List ℕ} {p : ℕ} where
  pub told-no : told.answer.code ≢ 0 → Lined out from (refused_line told.answer) 41 m p → Wrote out from (told_in e old told) (told_most e old told) m p
  told-no h w = rw (ne_eqb told.answer.code 0 h) (wrote-line (omega arith) w)

  pub told-yes :
      {m' : List ℕ} {p' : ℕ} → told.answer.code ≡ 0 → Named e told.book.tasks
      → Wrote out from (lines_in e old told.book) (lines_most e (started old told.book)) m p
      → Lined m p (early_line told) 30 m' p'
      → Wrote out from (told_in e old told) (told_most e old told) m' p'
  told-yes z named v w =
      let h = lines-short e told.book.tasks (count-below told.book.tasks (starting old told.book.mark)) named in
      rw (eq-eqb told.answer.code 0 z) (also v (wrote-line (omega (arith, v.place, v.small, wrote-length v)) w))

-- ---- an opened book's lines

pub opened-wrote :
    (book : Book) (early : ℕ) {out : List ℕ} {m : List ℕ} {p : ℕ} {m' : List ℕ} {p' : ℕ} {m'' : List ℕ} {p'' : ℕ}
    → book.tasks ≤ 64 → 3432 ≤ length out → Lined out 0 (run_line book) 47 m p
    → Wrote m p (starts_in (replicate 64 0) book book.tasks) (52 * started (replicate 64 0) book) m' p'
    → Lined m' p' (early_line (record { answer = granted; book = book; early = early })) 30 m'' p''
    → Wrote out 0 (opened_in book early) 3432 m'' p''
opened-wrote book early few fits u v w =
    let h = count-below book.tasks (starting (replicate 64 0) book.mark) in
    let r = wrote-line (omega arith) u in
    let e = wrote-line (omega (arith, r.place, r.small, wrote-length r, v.place, v.small, wrote-length v)) w in
    looser {a = 47 + (52 * started (replicate 64 0) book + 30)} (omega arith) (also r (also v e))
