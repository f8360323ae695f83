-- What opening, a report, a drop and the figure answer, case by case.
use Prim.Native.Nat.{ℕ, ◌-◌, ◌≤◌, ◌<◌}
use native.Mathlib.Omega.{arith}
use mathlib.Core.Bool.{true, false, not, ◌||◌}
use mathlib.Core.Path.{◌≡◌, refl, sym, subst, ◌∙◌}
use mathlib.Core.Logic.{◌≢◌, ◌↔◌, ◌⊎◌, inl, inr, ⊎_elim}
use lib.Dec.{eqb, ltb, leb}
use borrow.Author.Tests.{eq-eqb, ne_eqb}
use Rattle.laws.proofs.Cases.{by_bool, by-eq}
use Rattle.theory.specs.Book.{waiting, running, is_dropped, limit}
use Rattle.theory.specs.Report.{blank, none_past, report_code, drop_code}
use Rattle.theory.specs.Words.Events.{Accepts, AcceptsDrop, Event}
use Rattle.theory.proofs.Reflect.{accepts-code, accepts-drop-code}
use Rattle.plan.specs.Answer.{refuse, granted}
use Rattle.plan.specs.Value.{zero_plan, is_accepted}
use Rattle.plan.specs.declared.Plan.{Plan}
use Rattle.book.specs.Words.Sized.{SizedPlan, Sized}
use Rattle.book.specs.View.{plan_view, book_view}
use Rattle.book.specs.Sound.{is_sound}
use Rattle.book.specs.Open.{opening_of}
use Rattle.book.specs.Report.{code_of, report_answer, reported_of}
use Rattle.book.specs.Drop.{drop_code_of, drop_answer, dropped_of}
use Rattle.book.specs.Early.{figure_of}
use Rattle.book.specs.declared.Book.{Book}
use Rattle.book.specs.declared.BookResult.{BookResult}
use Rattle.book.specs.declared.Rule.{Rule}
use Rattle.book.specs.declared.Figure.{Figure}
use Rattle.book.proofs.Sizes.{sized-laid, sized-opened}
use Rattle.book.proofs.ReportLaws.{code-zero, drop-zero}
use Rattle.book.proofs.Reports.{event-sized}
use Rattle.promises.specs.Says.{OpeningSays, ReportSays, DropSays, FigureSays}
use Rattle.promises.proofs.RunView.{answer-code}
use Rattle.promises.proofs.Codes.Reading.{zero-sized}

pub opening-says : (plan : Plan) (rule : Rule) → OpeningSays plan rule (opening_of plan rule)
unfolding opening_of
opening-says plan rule =
    by_bool (is_accepted plan) (λ h. OpeningSays.opened h (rw h)) (λ h. OpeningSays.refused h (rw h))

pub opening_code : (plan : Plan) (rule : Rule) → ((opening_of plan rule).answer.code ≡ 0) ⊎ ((opening_of plan rule).answer.code ≡ 9)
opening_code plan rule = go (opening_of plan rule) (opening-says plan rule)
  where
    go : (r : BookResult) → OpeningSays plan rule r → (r.answer.code ≡ 0) ⊎ (r.answer.code ≡ 9)
    go r (OpeningSays.opened h e) = inl (rw e)
    go r (OpeningSays.refused h e) = inr (rw e)

pub opening-sized : (plan : Plan) (rule : Rule) → SizedPlan plan → Sized (opening_of plan rule).book
opening-sized plan rule s = go (opening_of plan rule) (opening-says plan rule)
  where
    go : (r : BookResult) → OpeningSays plan rule r → Sized r.book
    go r (OpeningSays.opened h e) = rw e (sized-opened plan rule s)
    go r (OpeningSays.refused h e) = rw e (sized-laid 0 zero_plan blank zero-sized)

-- a report
abbrev ReportNumber : ℕ → Type 0
ReportNumber code = (code ≡ 0) ⊎ ((10 ≤ code) × (code ≤ 15))

report-number : (book : Book) (task tick : ℕ) → ReportNumber (code_of book task tick)
unfolding code_of report_code
report-number book task tick =
    by_bool (eqb task 0) (λ a. rw a (inr (omega arith, omega arith)))
    (λ a.
    by_bool (leb book.tasks (task - 1)) (λ b. rw (a, b) (inr (omega arith, omega arith)))
    (λ b.
    by_bool (not (running (book_view book).mark (task - 1))) (λ c. rw (a, b, c) (inr (omega arith, omega arith)))
    (λ c.
    by_bool (ltb tick book.clock) (λ d. rw (a, b, c, d) (inr (omega arith, omega arith)))
    (λ d.
    by_bool (leb tick ((book_view book).start (task - 1))) (λ e. rw (a, b, c, d, e) (inr (omega arith, omega arith)))
    (λ e.
    by_bool (ltb (limit (plan_view book) (book_view book) (task - 1)) tick)
    (λ f. rw (a, b, c, d, e, f) (inr (omega arith, omega arith)))
    (λ f.
    by_bool (not (none_past (plan_view book) (book_view book) tick))
    (λ h. rw (a, b, c, d, e, f, h) (inr (omega arith, omega arith)))
    (λ h. rw (a, b, c, d, e, f, h) (inl refl))))))))

module _ (book : Book) (task tick : ℕ) where
  unsound-report : is_sound book ≡ false → reported_of book task tick ≡ record { answer = refuse 9 0 0; book = book }
  unfolding reported_of report_answer
  unsound-report h = rw h

  refused-report :
      is_sound book ≡ true → code_of book task tick ≢ 0
      → reported_of book task tick ≡ record { answer = refuse (code_of book task tick) task tick; book = book }
  unfolding reported_of report_answer
  refused-report h n = rw (h, ne_eqb (code_of book task tick) 0 n, ne_eqb (code_of book task tick) 0 n)

  taken-report : is_sound book ≡ true → code_of book task tick ≡ 0 → (reported_of book task tick).answer ≡ granted
  unfolding reported_of report_answer
  taken-report h z = rw (h, eq-eqb (code_of book task tick) 0 z)

  pub report-says : ReportSays book task tick (reported_of book task tick)
  report-says =
      by_bool (is_sound book)
      (λ h.
      by-eq (code_of book task tick) 0
      (λ z. ReportSays.taken h (taken-report h z))
      (λ n.
      ⊎_elim (λ z. absurd (n z)) (λ c. ReportSays.refused (code_of book task tick) h c.0 c.1 (refused-report h n))
      (report-number book task tick)))
      (λ h. ReportSays.unsound h (unsound-report h))

pub report-code :
    (book : Book) (task tick : ℕ)
    → ((reported_of book task tick).answer.code ≡ 0)
    ⊎ ((9 ≤ (reported_of book task tick).answer.code) × ((reported_of book task tick).answer.code ≤ 15))
report-code book task tick = go (reported_of book task tick) (report-says book task tick)
  where
    go : (r : BookResult) → ReportSays book task tick r → (r.answer.code ≡ 0) ⊎ ((9 ≤ r.answer.code) × (r.answer.code ≤ 15))
    go r (ReportSays.taken h e) = inl (rw e)
    go r (ReportSays.unsound h e) = inr (rw e (omega arith, omega arith))
    go r (ReportSays.refused code h a b e) = inr (rw e (omega arith, b))

pub reported-sized : (book : Book) (task tick : ℕ) → Sized book → Sized (reported_of book task tick).book
reported-sized book task tick s =
    by_bool (is_sound book) (λ h. event-sized book h (Event.ends task tick) s) (λ h. subst (λ (x : BookResult). Sized x.book) (sym (unsound-report book task tick h)) s)

-- a report is accepted where none of its codes applies
module _ (book : Book) (task tick : ℕ) where
  code-accepted : 0 < task → Accepts (plan_view book) (book_view book) (task - 1) tick → code_of book task tick ≡ 0
  unfolding code_of
  code-accepted p a = rw (ne_eqb task 0 (omega arith)) (accepts-code (plan_view book) (book_view book) (task - 1) tick a)

  pub report-accepted :
      ((reported_of book task tick).answer.code ≡ 0)
      ↔ ((is_sound book ≡ true) × (0 < task) × Accepts (plan_view book) (book_view book) (task - 1) tick)
  report-accepted = (there, back)
    where
      there :
          (reported_of book task tick).answer.code ≡ 0
          → (is_sound book ≡ true) × (0 < task) × Accepts (plan_view book) (book_view book) (task - 1) tick
      there z =
          by_bool (is_sound book)
          (λ h. let r = code-zero book task tick (sym (answer-code book h (Event.ends task tick)) ∙ z) in (h, r.0, r.1))
          (λ h. let q : ◌≡◌ {A = ℕ} 9 0 = rw (unsound-report book task tick h) at z in absurd (omega arith))

      back :
          (is_sound book ≡ true) × (0 < task) × Accepts (plan_view book) (book_view book) (task - 1) tick
          → (reported_of book task tick).answer.code ≡ 0
      back r = answer-code book r.0 (Event.ends task tick) ∙ code-accepted r.1 r.2

-- a drop
drop-number : (book : Book) (task : ℕ) → (drop_code_of book task ≡ 0) ⊎ ((drop_code_of book task ≡ 10) ⊎ (drop_code_of book task ≡ 19))
unfolding drop_code_of drop_code
drop-number book task =
    by_bool (eqb task 0) (λ a. rw a (inr (inl refl)))
    (λ a.
    by_bool (leb book.tasks (task - 1)) (λ b. rw (a, b) (inr (inl refl)))
    (λ b.
    by_bool (not (waiting (book_view book).mark (task - 1)) || is_dropped (book_view book).dropped (task - 1))
    (λ c. rw (a, b, c) (inr (inr refl)))
    (λ c. rw (a, b, c) (inl refl))))

module _ (book : Book) (task : ℕ) where
  unsound-drop : is_sound book ≡ false → dropped_of book task ≡ record { answer = refuse 9 0 0; book = book }
  unfolding dropped_of drop_answer
  unsound-drop h = rw h

  refused_drop :
      is_sound book ≡ true → drop_code_of book task ≢ 0
      → dropped_of book task ≡ record { answer = refuse (drop_code_of book task) task 0; book = book }
  unfolding dropped_of drop_answer
  refused_drop h n = rw (h, ne_eqb (drop_code_of book task) 0 n, ne_eqb (drop_code_of book task) 0 n)

  taken-drop : is_sound book ≡ true → drop_code_of book task ≡ 0 → (dropped_of book task).answer ≡ granted
  unfolding dropped_of drop_answer
  taken-drop h z = rw (h, eq-eqb (drop_code_of book task) 0 z)

  pub drop-says : DropSays book task (dropped_of book task)
  drop-says =
      by_bool (is_sound book)
      (λ h.
      by-eq (drop_code_of book task) 0
      (λ z. DropSays.taken h (taken-drop h z))
      (λ n.
      ⊎_elim (λ z. absurd (n z)) (λ c. DropSays.refused (drop_code_of book task) h c (refused_drop h n)) (drop-number book task)))
      (λ h. DropSays.unsound h (unsound-drop h))

pub drop_code_lem :
    (book : Book) (task : ℕ)
    → ((dropped_of book task).answer.code ≡ 0)
    ⊎ (((dropped_of book task).answer.code ≡ 9) ⊎ (((dropped_of book task).answer.code ≡ 10) ⊎ ((dropped_of book task).answer.code ≡ 19)))
drop_code_lem book task = go (dropped_of book task) (drop-says book task)
  where
    go :
        (r : BookResult) → DropSays book task r
        → (r.answer.code ≡ 0) ⊎ ((r.answer.code ≡ 9) ⊎ ((r.answer.code ≡ 10) ⊎ (r.answer.code ≡ 19)))
    go r (DropSays.taken h e) = inl (rw e)
    go r (DropSays.unsound h e) = inr (inl (rw e))
    go r (DropSays.refused code h c e) = inr (inr (rw e c))

pub dropped-sized : (book : Book) (task : ℕ) → Sized book → Sized (dropped_of book task).book
dropped-sized book task s =
    by_bool (is_sound book) (λ h. event-sized book h (Event.drops task) s) (λ h. subst (λ (x : BookResult). Sized x.book) (sym (unsound-drop book task h)) s)

-- a drop is accepted where none of its codes applies
module _ (book : Book) (task : ℕ) where
  drop-code-accepted : 0 < task → AcceptsDrop (plan_view book) (book_view book) (task - 1) → drop_code_of book task ≡ 0
  unfolding drop_code_of
  drop-code-accepted p a = rw (ne_eqb task 0 (omega arith)) (accepts-drop-code (plan_view book) (book_view book) (task - 1) a)

  pub drop-accepted :
      ((dropped_of book task).answer.code ≡ 0)
      ↔ ((is_sound book ≡ true) × (0 < task) × AcceptsDrop (plan_view book) (book_view book) (task - 1))
  drop-accepted = (there, back)
    where
      there :
          (dropped_of book task).answer.code ≡ 0
          → (is_sound book ≡ true) × (0 < task) × AcceptsDrop (plan_view book) (book_view book) (task - 1)
      there z =
          by_bool (is_sound book)
          (λ h. let r = drop-zero book task (sym (answer-code book h (Event.drops task)) ∙ z) in (h, r.0, r.1))
          (λ h. let q : ◌≡◌ {A = ℕ} 9 0 = rw (unsound-drop book task h) at z in absurd (omega arith))

      back :
          (is_sound book ≡ true) × (0 < task) × AcceptsDrop (plan_view book) (book_view book) (task - 1)
          → (dropped_of book task).answer.code ≡ 0
      back r = answer-code book r.0 (Event.drops task) ∙ drop-code-accepted r.1 r.2

pub figure-says : (book : Book) → FigureSays book (figure_of book)
unfolding figure_of
figure-says book = by_bool (is_sound book) (λ h. FigureSays.shown h (rw h)) (λ h. FigureSays.refused h (rw h))

pub figure-code : (book : Book) → ((figure_of book).answer.code ≡ 0) ⊎ ((figure_of book).answer.code ≡ 9)
figure-code book = go (figure_of book) (figure-says book)
  where
    go : (r : Figure) → FigureSays book r → (r.answer.code ≡ 0) ⊎ (r.answer.code ≡ 9)
    go r (FigureSays.shown h e) = inl (rw e)
    go r (FigureSays.refused h e) = inr (rw e)
