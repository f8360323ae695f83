-- What a line of ends.txt prints, and what it uses up of the lines that are still to come.
use Prim.Native.Nat.{ℕ, zero, suc, ◌+◌, ◌-◌, ◌≤◌, ◌<◌}
use mathlib.Core.Path.{◌≡◌, refl, sym, ap, ◌∙◌}
use mathlib.Core.Logic.{◌≢◌}
use mathlib.Core.Bool.{cond}
use mathlib.Core.List.{List, [], ◌++◌}
use native.Mathlib.Omega.{arith}
use lib.Dec.{eqb}
use lib.ListN.{length}
use borrow.Author.Tests.{eq-eqb, ne_eqb}
use Rattle.laws.proofs.Cases.{by-eq}
use Rattle.laws.specs.Private.Count.{count}
use Rattle.text.specs.Line.{lines_below}
use Rattle.theory.proofs.Facts.{Sound}
use Rattle.theory.specs.Book as theory-book
use Rattle.theory.specs.Report.{next, drop_it}
use Rattle.theory.specs.Words.Events.{Accepts, AcceptsDrop, Event}
use Rattle.theory.proofs.Step.{AtTask, next-at, next-dropped}
use Rattle.theory.proofs.Task.{runs-kept}
use Rattle.plan.specs.Value.{at}
use Rattle.book.specs.View.{plan_view, book_view}
use Rattle.book.specs.Report.{reported_of}
use Rattle.book.specs.Drop.{dropped_of}
use Rattle.book.specs.declared.Book.{Book}
use Rattle.book.proofs.Sizes.{Sized}
use Rattle.log_read.specs.Said.{Entry}
use Rattle.log_read.specs.Said.Entry.{End, Drop, Refused}
use Rattle.log_run.specs.Lines.{has_started, start_line, start_lines, end_line, early_line}
use Rattle.log_run.specs.Log.{told_of, lines_of, told_log}
use Rattle.log_run.specs.declared.StepOutcome.{StepOutcome}
use Rattle.log_write.specs.Private.Wrote.{Wrote}
use Rattle.log_run.specs.Private.Writes.{starting, starts_in, started, Named, lines_in, told_in, lines_most, told_most}
use Rattle.log_run.specs.Private.Room.{lines_left, to_come, room_for}
use Rattle.log_write.proofs.WriteLaws.{looser}
use Rattle.log_run.proofs.StartLaws.{count-below}
use Rattle.log_run.proofs.ComeLaws.{lines_stay, lines-go, lines_end, lines-drop, pays}
use Rattle.log_run.proofs.BookLaws.{
  report-refused,
  report-few,
  report-some,
  report-accepts,
  report-sound,
  report-tasks,
  report-view,
  drop-refused,
  drop-few,
  drop-some,
  drop-accepts,
  drop-tasks,
  drop-view,
  sized-told,
}

pub starts-same : (old new : Book) (n : ℕ) → start_lines old new n ≡ starts_in old.mark new n
unfolding starts_in lines_below
starts-same old new zero = refl
starts-same old new (suc n) = ap (λ (s : List ℕ). s ++ cond (has_started old new n) (start_line new n) []) (starts-same old new n)

-- ---- each line that is printed was still to come

-- what a task gives up of its lines, at the least, beside the one that it prints as it starts
abbrev Gives : Book → Book → ℕ → ℕ → Type 0
Gives book new i more =
    lines_left (at new.mark i) (at new.dropped i) + cond (starting book.mark new.mark i) 1 0 + more
    ≤ lines_left (at book.mark i) (at book.dropped i)

pays-all :
    (book new : Book) (k : ℕ) → k < book.tasks → ((i : ℕ) → i < book.tasks → i ≢ k → Gives book new i 0) → Gives book new k 1
    → to_come new.mark new.dropped book.tasks + count book.tasks (starting book.mark new.mark) + 1
    ≤ to_come book.mark book.dropped book.tasks
pays-all book new k h stay here =
    pays book.mark new.mark book.dropped new.dropped book.tasks k
    (λ i l n. omega (arith, stay i l n))
    here book.tasks (omega arith) h

module _ (book new : Book) (k tick : ℕ) (view : book_view new ≡ next (plan_view book) (book_view book) k tick)
    (ok : Accepts (plan_view book) (book_view book) k tick) (sound : Sound (plan_view book) (book_view book))
  where
    at-task : (i : ℕ) → i < book.tasks → AtTask (plan_view book) (book_view book) k tick (book_view new) i
    at-task i l = rw view (next-at (plan_view book) (book_view book) k tick i l)

    dropped-is : (i : ℕ) → at new.dropped i ≡ at book.dropped i
    dropped-is i =
        ap (λ (b : theory-book.Book). b.dropped i) view
        ∙ ap (λ (f : ℕ → ℕ). f i) (next-dropped (plan_view book) (book_view book) k tick)

    it-goes : (i : ℕ) → at book.mark i ≡ 0 → at new.mark i ≢ 0 → Gives book new i 0
    it-goes i w n = omega (arith, lines-go (at book.mark i) (at new.mark i) (at book.dropped i) (at new.dropped i) w n (dropped-is i))

    it-stays : (i : ℕ) → at new.mark i ≡ at book.mark i → Gives book new i 0
    it-stays i m = omega (arith, lines_stay (at book.mark i) (at new.mark i) (at book.dropped i) (at new.dropped i) m (dropped-is i))

    stays : (i : ℕ) → i < book.tasks → i ≢ k → Gives book new i 0
    stays i l ne = go (at-task i l)
      where
        go : AtTask (plan_view book) (book_view book) k tick (book_view new) i → Gives book new i 0
        go (AtTask.ends e m b v) = absurd (ne e)
        go (AtTask.starts n w all m b v) = it-goes i w (λ z. omega arith)
        go (AtTask.skipped n w d all m b v) = it-goes i w (λ z. omega arith)
        go (AtTask.stands n w m b v) = it-stays i m
        go (AtTask.lingers n w all m b v) = it-stays i m

    ends : Gives book new k 1
    ends = go (at-task k ok.task)
      where
        go : AtTask (plan_view book) (book_view book) k tick (book_view new) k → Gives book new k 1
        go (AtTask.ends e m b v) =
            lines_end _ _ _ _ ok.runs m (runs-kept (sound.task k ok.task) ok.runs) (dropped-is k)
        go (AtTask.starts n w all m b v) = absurd (n refl)
        go (AtTask.skipped n w d all m b v) = absurd (n refl)
        go (AtTask.stands n w m b v) = absurd (n refl)
        go (AtTask.lingers n w all m b v) = absurd (n refl)

    next-pays :
        to_come new.mark new.dropped book.tasks + count book.tasks (starting book.mark new.mark) + 1
        ≤ to_come book.mark book.dropped book.tasks
    next-pays = pays-all book new k ok.task stays ends

-- a drop takes a line from its task
module _ (book new : Book) (k : ℕ) (view : book_view new ≡ drop_it (book_view book) k) (ok : AcceptsDrop (plan_view book) (book_view book) k)
  where
    mark-is : (i : ℕ) → at new.mark i ≡ at book.mark i
    mark-is i = ap (λ (b : theory-book.Book). b.mark i) view

    gone-is : (i : ℕ) → at new.dropped i ≡ cond (eqb i k) 1 (at book.dropped i)
    gone-is i = ap (λ (b : theory-book.Book). b.dropped i) view

    keeps : (i : ℕ) → at new.dropped i ≡ at book.dropped i → Gives book new i 0
    keeps i q = omega (arith, lines_stay (at book.mark i) (at new.mark i) (at book.dropped i) (at new.dropped i) (mark-is i) q)

    drop-pays :
        to_come new.mark new.dropped book.tasks + count book.tasks (starting book.mark new.mark) + 1
        ≤ to_come book.mark book.dropped book.tasks
    drop-pays =
        pays-all book new k ok.task
        (λ i l n. keeps i (gone-is i ∙ rw (ne_eqb i k n)))
        (lines-drop (at book.mark k) (at new.mark k) (at book.dropped k) (at new.dropped k) (mark-is k) ok.waits ok.new
        (gone-is k ∙ rw (eq-eqb k k refl)))

-- ---- what a line is answered

module _ (n : ℕ) where
  told_named : (book : Book) (e : Entry) → (told_of n book e).answer.code ≡ 0 → Named e (told_of n book e).book.tasks
  unfolding told_of
  told_named book (End task tick) z =
      let few = report-few book task tick z in (
        report-some book task tick z,
        omega (arith, few, report-some book task tick z, (report-accepts book task tick z).task),
        omega (arith, few, report-tasks book task tick z),
      )
  told_named book (Drop task) z = (
    drop-some book task z,
    omega (arith, drop-few book task z, drop-some book task z, (drop-accepts book task z).task),
    omega arith,
  )
  told_named book (Refused code column) z = omega arith

  told-lines :
      (book : Book) (e : Entry) → (told_of n book e).answer.code ≡ 0
      → lines_of book e (told_of n book e).book ≡ lines_in e book.mark (told_of n book e).book
  unfolding told_of
  told-lines book (End task tick) z =
      let after = (reported_of book task tick).book in
      ap (λ (x : List ℕ). end_line after task ++ x)
      (ap (start_lines book after) (sym (report-tasks book task tick z)) ∙ starts-same book after after.tasks)
  told-lines book (Drop task) z = refl
  told-lines book (Refused code column) z = refl

  -- what is printed is at most what was to come, and a line of three numbers
  told-pays :
      (book : Book) (e : Entry) → Sized book → (told_of n book e).answer.code ≡ 0
      → lines_most e (started book.mark (told_of n book e).book) + 30 + room_for (told_of n book e).book ≤ room_for book + 41
  unfolding told_of
  told-pays book (End task tick) s z =
      rw (report-tasks book task tick z)
      (omega (
        arith,
        next-pays book (reported_of book task tick).book (task - 1) tick (report-view book task tick z)
            (report-accepts book task tick z) (report-sound book task tick z),
      ))
  told-pays book (Drop task) s z =
      rw (drop-tasks book task z)
      (omega (
        arith,
        drop-pays book (dropped_of book task).book (task - 1) (drop-view book task z) (drop-accepts book task z),
      ))
  told-pays book (Refused code column) s z = omega arith

  told-short :
      (book : Book) (e : Entry) → (told_of n book e).answer.code ≡ 0
      → lines_most e (started book.mark (told_of n book e).book) ≤ 3380
  unfolding told_of
  told-short book (End task tick) z =
      let after = (reported_of book task tick).book in
      omega (
        arith,
        report-few book task tick z,
        report-tasks book task tick z,
        count-below after.tasks (starting book.mark after.mark),
      )
  told-short book (Drop task) z = omega arith
  told-short book (Refused code column) z = omega arith

  pub told-sized : (book : Book) (e : Entry) → Sized book → Sized (told_of n book e).book
  unfolding told_of
  told-sized book (End task tick) s = sized-told book (Event.ends task tick) s
  told-sized book (Drop task) s = sized-told book (Event.drops task) s
  told-sized book (Refused code column) s = s

  told-stays : (book : Book) (e : Entry) → (told_of n book e).answer.code ≢ 0 → (told_of n book e).book ≡ book
  unfolding told_of
  told-stays book (End task tick) h = report-refused book task tick h
  told-stays book (Drop task) h = drop-refused book task h
  told-stays book (Refused code column) h = refl

-- ---- a line's text, written

-- the text was written, and is at most what it takes from what was to come and a line of three numbers
pub record Told (out : List ℕ) (from : ℕ) (book : Book) (text : List ℕ) (after : Book) (written : List ℕ) (place : ℕ) : Type 0 where
  pub wrote : Wrote out from text 3432 written place
  pub paid : length text + room_for after ≤ room_for book + 41

granted-same : (c : ℕ) (a b r : List ℕ) → (c ≡ 0 → a ≡ b) → cond (eqb c 0) a r ≡ cond (eqb c 0) b r
granted-same c a b r h = by-eq c 0 (λ z. rw (eq-eqb c 0 z) (h z)) (λ n. rw (ne_eqb c 0 n))

granted-most : (c a b x m : ℕ) → (c ≡ 0 → a + x ≤ m) → (c ≢ 0 → b + x ≤ m) → cond (eqb c 0) a b + x ≤ m
granted-most c a b x m f g = by-eq c 0 (λ z. rw (eq-eqb c 0 z) (f z)) (λ n. rw (ne_eqb c 0 n) (g n))

module _ (n : ℕ) (book : Book) (e : Entry) where
  abbrev told : StepOutcome
  told = told_of n book e

  pub told_names : {r : StepOutcome} → r ≡ told → r.answer.code ≡ 0 → Named e r.book.tasks
  told_names q z = let z' : told.answer.code ≡ 0 = rw q at z in rw q (told_named n book e z')

  pub told_text : told_log book e told ≡ told_in e book.mark told
  unfolding told_log
  told_text = granted-same told.answer.code _ _ _ (λ z. ap (λ (x : List ℕ). x ++ early_line told) (told-lines n book e z))

  pub told-most : told_most e book.mark told + 0 ≤ 3432
  told-most =
      granted-most told.answer.code (lines_most e (started book.mark told.book) + 30) 41 0 3432
      (λ z. omega (arith, told-short n book e z))
      (λ h. omega arith)

  told-paid : Sized book → told_most e book.mark told + room_for told.book ≤ room_for book + 41
  told-paid s =
      granted-most told.answer.code (lines_most e (started book.mark told.book) + 30) 41 (room_for told.book) (room_for book + 41)
      (told-pays n book e s)
      (λ h. rw (told-stays n book e h) (omega arith))

  pub told_wrote :
      {out : List ℕ} {from : ℕ} {written : List ℕ} {place : ℕ} → Sized book
      → Wrote out from (told_in e book.mark told) (told_most e book.mark told) written place
      → Told out from book (told_log book e told) told.book written place
  told_wrote s w = record {
    wrote = rw told_text (looser (omega (arith, told-most)) w);
    paid = rw told_text (omega (arith, w.small, told-paid s));
  }
