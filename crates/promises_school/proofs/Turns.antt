-- What one line of ends.txt prints adds to what is known just what it adds to the book.
use Prim.Native.Nat.{ℕ, suc, ◌+◌, ◌-◌, ◌≤◌, ◌<◌}
use native.Mathlib.Omega.{arith}
use mathlib.Core.Path.{◌≡◌, refl, sym, ap, subst, ◌∙◌}
use mathlib.Core.Logic.{◌≢◌, ◌⊎◌, ⊎_elim}
use mathlib.Core.Bool.{Bool, true, false}
use mathlib.Core.List.Memᴰ
use mathlib.Core.List.{List, [], ◌∷◌, ◌++◌, append_assoc}
use mathlib.Core.Option
use mathlib.Core.Option.{Option, none, some}
use lib.ListN.{length, get_or, length-take}
use borrow.Author.Tests.{eq-eqb, ne_eqb}
use Rattle.laws.specs.Lists.{all_of}
use Rattle.laws.specs.Picked.{least}
use Rattle.laws.specs.Split.{index_of}
use Rattle.laws.proofs.Cases.{by_bool, by-eq, true-false}
use Rattle.laws.proofs.Least.{least-met}
use Rattle.text.specs.Bytes.{bytes}
use Rattle.text.specs.Line.{LF}
use Rattle.text.specs.Number.{most}
use Rattle.theory.specs.Figure.{has_begun, early_by, counts, minimum_early}
use Rattle.theory.specs.Words.Events.{Event}
use Rattle.plan.specs.Answer.{refuse, is_granted}
use Rattle.plan.specs.Value.{at, is_accepted}
use Rattle.plan.specs.declared.Answer.{Answer}
use Rattle.plan.specs.declared.Plan.{Plan}
use Rattle.book_view.proofs.Accepted.{plan-facts}
use Rattle.book.specs.View.{book_view}
use Rattle.book.specs.Report.{code_of, reported_of}
use Rattle.book.specs.Drop.{dropped_of}
use Rattle.book.specs.Early.{figure_of}
use Rattle.book.specs.Words.Event.{book_told}
use Rattle.book.specs.declared.Book.{Book}
use Rattle.book.specs.declared.BookResult.{BookResult}
use Rattle.book.specs.declared.Rule.{Rule}
use Rattle.book.proofs.ReportLaws.{code-zero}
use Rattle.book.proofs.Reports.{event-plan, event-rule}
use Rattle.log_read.specs.Entries.{next_entry}
use Rattle.log_read.specs.Said.{Entry}
use Rattle.log_read.specs.Said.Entry.{End, Drop, Refused}
use Rattle.log_write.specs.Lines.{numbers_line, refused_line}
use Rattle.log_run.specs.Lines.{end_line, drop_line, start_lines}
use Rattle.log_run.specs.Log.{told_of, told_log}
use Rattle.promises.specs.Runs.{SizedPlan, Dropped}
use Rattle.promises.specs.Says.{entry_answer, EntrySays, ReportSays, DropSays}
use Rattle.promises.proofs.RunView.{good-event}
use Rattle.promises.proofs.SoundRun.{OnPlan, seen-plan, figure-is}
use Rattle.promises.proofs.Told.{code-of, report-ends, others-stay, report-keeps, report-drops}
use Rattle.promises.proofs.Codes.EntryLine.{entry-says}
use Rattle.promises.proofs.Codes.Book.{report-says, drop-says}
use Rattle.promises_school.proofs.WholeLines.{NoDrop, none_here, numbers-line}
use Rattle.promises_school.proofs.Adds.{Known}
use Rattle.promises_school.proofs.OwnPrinted.{Printed, printed-append, early-printed, refused-printed, end-printed, start_known, end_known, known_in, starts-printed}

-- the least of small numbers is small
least-small : (n : ℕ) (w : ℕ → Bool) (f : ℕ → ℕ) (c : ℕ) → ((i : ℕ) → i < n → f i ≤ c) → Option.get_or (least n w f) 0 ≤ c
least-small n w f c small = go (least n w f) refl
  where
    go : (o : Option ℕ) → least n w f ≡ o → Option.get_or o 0 ≤ c
    go none e = omega arith
    go (some v) e = let m = least-met n w f v e in omega (arith, small m.0 m.1, m.3)

-- the numbers of a line of ends.txt
abbrev pub Small : ℕ → Entry → Type 0
Small bytes (End task tick) = (task ≤ most) × (tick ≤ most)
Small bytes (Drop task) = (task ≤ most) × (0 ≤ bytes)
Small bytes (Refused code column) = (3 ≤ code) × (code ≤ 4) × (column ≤ bytes + 1)

small-answer :
    (bytes code column : ℕ) (r : Entry) → entry_answer 1 r ≡ refuse code 1 column → (code ≡ 3) ⊎ (code ≡ 4) → column ≤ bytes + 1 → Small bytes r
small-answer bytes code column (End task tick) e k l =
    let z : 0 ≡ code = ap (λ (x : Answer). x.code) e in absurd (⊎_elim (λ c. omega arith) (λ c. omega arith) k)
small-answer bytes code column (Drop task) e k l =
    let z : 0 ≡ code = ap (λ (x : Answer). x.code) e in absurd (⊎_elim (λ c. omega arith) (λ c. omega arith) k)
small-answer bytes code column (Refused c col) e k l =
    let z : c ≡ code = ap (λ (x : Answer). x.code) e in
    let y : col ≡ column = ap (λ (x : Answer). x.second) e in
    (⊎_elim (λ q. omega arith) (λ q. omega arith) k, ⊎_elim (λ q. omega arith) (λ q. omega arith) k, omega arith)

pub entry-small : (rest : List ℕ) (entry : Entry) → next_entry rest ≡ entry → Small (length rest) entry
entry-small rest entry q = subst (Small (length rest)) q (go (entry-says 1 rest))
  where
    go : EntrySays 1 rest (next_entry rest) → Small (length rest) (next_entry rest)
    go (EntrySays.an_end task tick a b l f e) = rw e (a, b)
    go (EntrySays.a_drop task a l f e) = rw e (a, omega arith)
    go (EntrySays.refused_drop c col d k s e) =
        small-answer (length rest) c col (next_entry rest) e k (omega (arith, s.to, length-take (index_of LF rest) rest))
    go (EntrySays.refused_end c col d k s e) =
        small-answer (length rest) c col (next_entry rest) e k (omega (arith, s.to, length-take (index_of LF rest) rest))

module _ (plan : Plan) (rule : Rule) (size : SizedPlan plan) (ok : is_accepted plan ≡ true) where
  pub record Turn (book next : Book) (text : List ℕ) : Type 0 where
    pub on : OnPlan plan rule next
    pub undropped : (i : ℕ) → i < plan.tasks → Dropped next i → ⊥
    pub printed : Printed plan (known_in book) (known_in next) text

  -- M is at most a planned start
  pub figure-small : (book : Book) → OnPlan plan rule book → (figure_of book).early ≤ most
  unfolding minimum_early
  figure-small book on =
      let small =
      least-small plan.tasks (counts (book_view book)) (early_by (seen-plan plan rule size ok) (book_view book)) most
      (λ i l.
      let f = (plan-facts plan ok).task i l in
      by_bool (has_begun (book_view book) i)
      (λ h. rw h (omega (arith, f.lasts, f.by_most))) (λ h. rw h (omega (arith, f.lasts, f.by_most)))) in
      omega (arith, small, figure-is plan rule size ok book on)

  module _ (book : Book) (on : OnPlan plan rule book) (undropped : (i : ℕ) → i < plan.tasks → Dropped book i → ⊥) where
    tasks_are : book.tasks ≡ plan.tasks
    tasks_are = ap (λ (p : Plan). p.tasks) on.same

    told-on : (event : Event) → (next : Book) → book_told book event ≡ next → OnPlan plan rule next
    told-on event next e =
        subst (OnPlan plan rule) e
        (record {
          good = good-event book event on.good;
          same = event-plan book on.good.sound event ∙ on.same;
          by = event-rule book on.good.sound event ∙ on.by;
        })

    -- a report that is taken
    module _ (task tick : ℕ) (few : tick ≤ most) (z : code_of book task tick ≡ 0) where
      abbrev next : Book
      next = (reported_of book task tick).book

      abbrev j : ℕ
      j = task - 1

      known-task : j < plan.tasks
      known-task = omega (arith, (code-zero book task tick z).1.task, tasks_are)

      next-on : OnPlan plan rule next
      next-on = told-on (Event.ends task tick) next refl

      next-undropped : (i : ℕ) → i < plan.tasks → Dropped next i → ⊥
      next-undropped i l d = undropped i l (ap (λ (a : List ℕ). at a i) (sym (report-drops book on.good.sized task tick)) ∙ d)

      end_before : end_known book j ≡ 0
      end_before = let r = (code-zero book task tick z).1.runs in rw (ne_eqb (at book.mark j) 2 (omega arith))

      end_after : end_known next j ≡ suc tick
      end_after = let r = report-ends book on.good task tick z in rw (eq-eqb (at next.mark j) 2 r.0) (ap suc r.1)

      end-others : (i : ℕ) → i < plan.tasks → i ≢ j → end_known next i ≡ end_known book i
      end-others i l d =
          let r = others-stay book on.good task tick z i (omega (arith, tasks_are)) d (λ q. absurd (undropped i l q)) in
          by-eq (at book.mark i) 2
          (λ e. rw (eq-eqb (at book.mark i) 2 e, eq-eqb (at next.mark i) 2 (r.0.1 e)) (ap suc r.1))
          (λ n. rw (ne_eqb (at book.mark i) 2 n, ne_eqb (at next.mark i) 2 (λ e. n (r.0.0 e))))

      line-is :
          end_line next task
          ≡ numbers_line (bytes "end") ((j + 1) ∷ at plan.board j ∷ tick ∷ (at plan.finish j - tick) ∷ [])
      line-is =
          let one : task ≡ j + 1 = omega (arith, (code-zero book task tick z).0) in
          let e : at next.end j ≡ tick = (report-ends book on.good task tick z).1 in
          (λ i. numbers_line (bytes "end") (one i ∷ at (next-on.same i).board j ∷ e i ∷ (at (next-on.same i).finish j - e i) ∷ []))

      abbrev middle : Known
      middle = record { start = start_known book; end = end_known next }

      lines-printed : Printed plan (known_in book) (known_in next) (end_line next task ++ start_lines book next book.tasks)
      lines-printed =
          subst (Printed plan (known_in book) (known_in next)) (λ i. sym line-is i ++ start_lines book next (sym tasks_are i))
          (printed-append plan (known_in book) middle (known_in next) _ _
          (end-printed plan ok (known_in book) middle j tick known-task few end_before end_after end-others (λ i l. refl))
          (starts-printed plan rule size ok book next next-on next-undropped
          (λ i l n. report-keeps book on.good task tick z i (omega (arith, tasks_are)) n) (end_known next)))

      taken-turn :
          Turn book next
          ((end_line next task ++ start_lines book next book.tasks) ++ numbers_line (bytes "early") (next.clock ∷ (figure_of next).early ∷ []))
      taken-turn = record {
        on = next-on;
        undropped = next-undropped;
        printed = printed-append plan (known_in book) (known_in next) (known_in next) _ _ lines-printed
            (early-printed plan (known_in next) next.clock (figure_of next).early
            (omega (arith, (report-ends book on.good task tick z).2)) (figure-small next next-on));
      }

    -- what is refused adds nothing
    stays-turn : (next : Book) (answer : Answer) → next ≡ book → answer.code ≤ most → answer.first ≤ most → answer.second ≤ most → Turn book next (refused_line answer)
    stays-turn next answer e c f s =
        subst (λ (b : Book). Turn book b (refused_line answer)) (sym e)
        (record { on = on; undropped = undropped; printed = refused-printed plan (known_in book) answer c f s })

    report-turn :
        (n task tick : ℕ) → task ≤ most → tick ≤ most
        → Turn book (reported_of book task tick).book (told_log book (End task tick) (told_of n book (End task tick)))
    unfolding told_log told_of
    report-turn n task tick a b = go (report-says book task tick)
      where
        go :
            ReportSays book task tick (reported_of book task tick)
            → Turn book (reported_of book task tick).book (told_log book (End task tick) (told_of n book (End task tick)))
        go (ReportSays.taken h e) =
            let c : (reported_of book task tick).answer.code ≡ 0 = ap (λ (x : Answer). x.code) e in
            let g : is_granted (reported_of book task tick).answer ≡ true = eq-eqb _ 0 c in
            rw g (taken-turn task tick b (code-of book task tick h c))
        go (ReportSays.unsound h e) = absurd (true-false on.good.sound h)
        go (ReportSays.refused code h l m e) =
            let c : (reported_of book task tick).answer.code ≡ code = ap (λ (x : BookResult). x.answer.code) e in
            let f : (reported_of book task tick).answer.first ≡ task = ap (λ (x : BookResult). x.answer.first) e in
            let s : (reported_of book task tick).answer.second ≡ tick = ap (λ (x : BookResult). x.answer.second) e in
            let g : is_granted (reported_of book task tick).answer ≡ false = ne_eqb (reported_of book task tick).answer.code 0 (λ q. omega arith) in
            rw g
            (stays-turn (reported_of book task tick).book (reported_of book task tick).answer (ap (λ (x : BookResult). x.book) e)
            (omega arith) (omega arith) (omega arith))

    drop-turn :
        (n task : ℕ) (rest : List ℕ) → task ≤ most → NoDrop (told_log book (Drop task) (told_of n book (Drop task)) ++ rest)
        → Turn book (dropped_of book task).book (told_log book (Drop task) (told_of n book (Drop task)))
    unfolding told_log told_of all_of
    drop-turn n task rest a nodrop = go (drop-says book task)
      where
        go :
            DropSays book task (dropped_of book task)
            → Turn book (dropped_of book task).book (told_log book (Drop task) (told_of n book (Drop task)))
        go (DropSays.taken h e) =
            let c : (dropped_of book task).answer.code ≡ 0 = ap (λ (x : Answer). x.code) e in
            let g : is_granted (dropped_of book task).answer ≡ true = eq-eqb _ 0 c in
            let next = (dropped_of book task).book in
            let early = numbers_line (bytes "early") (next.clock ∷ (figure_of next).early ∷ []) in
            let text : NoDrop ((drop_line next task ++ early) ++ rest) = rw g at nodrop in
            let text' : NoDrop (drop_line next task ++ (early ++ rest)) = subst NoDrop (append_assoc (drop_line next task) early rest) text in
            let one = numbers-line (bytes "drop") (task ∷ at next.board (task - 1) ∷ []) (refl, refl) in
            absurd (none_here (early ++ rest) one.whole text' one.line (Memᴰ.head refl) (ap (λ (p : List (List ℕ)). get_or p 0 []) one.has))
        go (DropSays.unsound h e) = absurd (true-false on.good.sound h)
        go (DropSays.refused code h k e) =
            let c : (dropped_of book task).answer.code ≡ code = ap (λ (x : BookResult). x.answer.code) e in
            let f : (dropped_of book task).answer.first ≡ task = ap (λ (x : BookResult). x.answer.first) e in
            let s : (dropped_of book task).answer.second ≡ 0 = ap (λ (x : BookResult). x.answer.second) e in
            let g : is_granted (dropped_of book task).answer ≡ false = ne_eqb (dropped_of book task).answer.code 0 (λ q. ⊎_elim (λ y. omega arith) (λ y. omega arith) k) in
            rw g
            (stays-turn (dropped_of book task).book (dropped_of book task).answer (ap (λ (x : BookResult). x.book) e)
            (⊎_elim (λ y. omega arith) (λ y. omega arith) k) (omega arith) (omega arith))

    pub entry-turn :
        (n : ℕ) (ends rest : List ℕ) (entry : Entry) → next_entry ends ≡ entry → n + length ends ≤ 40000
        → NoDrop (told_log book entry (told_of n book entry) ++ rest)
        → Turn book (told_of n book entry).book (told_log book entry (told_of n book entry))
    unfolding told_log told_of
    entry-turn n ends rest (End task tick) q l nodrop = let s = entry-small ends (End task tick) q in report-turn n task tick s.0 s.1
    entry-turn n ends rest (Drop task) q l nodrop = let s = entry-small ends (Drop task) q in drop-turn n task rest s.0 nodrop
    entry-turn n ends rest (Refused code column) q l nodrop =
        let s = entry-small ends (Refused code column) q in
        rw (ne_eqb code 0 (λ z. omega arith)) (stays-turn book (refuse code n column) refl (omega arith) (omega arith) (omega arith))
