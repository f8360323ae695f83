-- One line's answer and an opening, written from the first byte on.
use Prim.Native.Nat.{ℕ, ◌≤◌}
use mathlib.Core.Path.{◌≡◌, ap, ◌∙◌}
use mathlib.Core.Logic.{◌≢◌}
use mathlib.Core.Bool.{true}
use mathlib.Core.List.{List}
use native.Mathlib.Omega.{arith}
use lib.ListN.{length}
use borrow.Author.Tests.{eq-eqb, ne_eqb}
use Rattle.laws.proofs.Cases.{by_bool}
use Rattle.plan.specs.Answer.{granted}
use Rattle.plan.specs.Value.{is_accepted}
use Rattle.plan.specs.declared.Answer.{Answer}
use Rattle.plan.specs.declared.Plan.{Plan}
use Rattle.book_view.proofs.Accepted.{plan-facts}
use Rattle.book.specs.Sound.{is_sound}
use Rattle.book.specs.Open.{opened_on, opening_of}
use Rattle.book.specs.declared.Book.{Book}
use Rattle.book.specs.declared.BookResult.{BookResult}
use Rattle.book.specs.declared.Rule.{Rule}
use Rattle.book.proofs.Soundness.{opened-is-sound}
use Rattle.log_read.specs.Said.{Entry}
use Rattle.log_write.specs.Lines.{Lined, refused_line}
use Rattle.log_write.specs.Answers.{Answered}
use Rattle.log_write.specs.Private.Wrote.{Wrote}
use Rattle.log_write.proofs.WriteLaws.{wrote-line}
use Rattle.log_run.specs.Log.{shown_after, open_log, told_of}
use Rattle.log_run.specs.Answers.{entry_log, logged_of, opening_log, opening_logged}
use Rattle.log_run.specs.declared.StepOutcome.{StepOutcome}
use Rattle.log_run.specs.declared.LogResult.{LogResult}
use Rattle.log_run.specs.Private.Writes.{opened_in, told_in, told_most}
use Rattle.log_run.proofs.BookLaws.{opened-tasks, opening-answer, opening-book}
use Rattle.log_run.proofs.OpenLaws.{opened-same}
use Rattle.log_run.proofs.ReportLaws.{told_text, told-most}

-- what was written in the room of an answer is one
answered : {out text : List ℕ} {a : ℕ} {m : List ℕ} {p : ℕ} → a ≤ 3432 → Wrote out 0 text a m p → Answered out text m p
answered h w = record { place = omega (arith, w.place); bytes = w.bytes; small = omega (arith, w.small) }

abbrev logged_by : Answer → Book → ℕ → LogResult
logged_by answer book length = record { answer = answer; book = book; length = length }

module _ (n : ℕ) (book : Book) (entry : Entry) {told : StepOutcome} (q : told ≡ told_of n book entry) {out m : List ℕ} {p : ℕ} where
  pub entry-logged :
      Wrote out 0 (told_in entry book.mark told) (told_most entry book.mark told) m p
      → (logged_by told.answer told.book p ≡ logged_of n book entry) × Answered out (entry_log n book entry) m p
  unfolding logged_of
  entry-logged w =
      let w' : Wrote out 0 (entry_log n book entry) (told_most entry book.mark (told_of n book entry)) m p = rw (told_text n book entry) (rw q at w) in
      let a : Answered out (entry_log n book entry) m p = answered (omega (arith, told-most n book entry)) w' in
      ((λ i. logged_by (q i).answer (q i).book (a.place i)), a)

module _ (plan : Plan) (rule : Rule) {handed : BookResult} (o : handed ≡ opening_of plan rule) where
  opening-accepts : handed.answer.code ≡ 0 → is_accepted plan ≡ true
  unfolding opening_of
  opening-accepts z =
      let z' : (opening_of plan rule).answer.code ≡ 0 = rw o at z in
      by_bool (is_accepted plan) (λ e. e) (λ e. let n : ◌≡◌ {A = ℕ} 9 0 = rw e at z' in absurd (omega arith))

  module _ (h : is_accepted plan ≡ true) where
    pub its-book : handed.book ≡ opened_on plan rule
    its-book = ap (λ (x : BookResult). x.book) o ∙ opening-book plan rule h

    its-answer : handed.answer ≡ granted
    its-answer = ap (λ (x : BookResult). x.answer) o ∙ opening-answer plan rule h

    pub its-few : handed.book.tasks ≤ 64
    its-few =
        let n = ap (λ (b : Book). b.tasks) its-book ∙ opened-tasks plan rule in
        omega (arith, n, (plan-facts plan h).tasks-to)

    pub its-text : {early : ℕ} → early ≡ (shown_after handed.answer handed.book).early → opened_in handed.book early ≡ open_log plan rule
    its-text e =
        ap (λ (x : ℕ). opened_in handed.book x) e
        ∙ ap (λ (b : Book). opened_in b (shown_after handed.answer b).early) its-book
        ∙ ap (λ (a : Answer). opened_in (opened_on plan rule) (shown_after a (opened_on plan rule)).early) its-answer
        ∙ opened-same plan rule

  pub opening-sound : handed.answer.code ≡ 0 → is_sound handed.book ≡ true
  opening-sound z = let h = opening-accepts z in rw (its-book h) (opened-is-sound plan rule h)

  pub opening-few : handed.answer.code ≡ 0 → handed.book.tasks ≤ 64
  opening-few z = its-few (opening-accepts z)

  module _ {out m : List ℕ} {p : ℕ} where
    logged-as :
        Answered out (opening_log plan rule) m p
        → (logged_by handed.answer handed.book p ≡ opening_logged plan rule) × Answered out (opening_log plan rule) m p
    unfolding opening_logged
    logged-as a = ((λ i. logged_by (o i).answer (o i).book (a.place i)), a)

    pub opening-refused :
        handed.answer.code ≢ 0 → length out ≡ 3432 → Lined out 0 (refused_line handed.answer) 41 m p
        → (logged_by handed.answer handed.book p ≡ opening_logged plan rule) × Answered out (opening_log plan rule) m p
    opening-refused n l w =
        let n' : (opening_of plan rule).answer.code ≢ 0 = rw o at n in
        let w' : Wrote out 0 (refused_line (opening_of plan rule).answer) 41 m p = rw o at (wrote-line (omega arith) w) in
        logged-as (rw (ne_eqb (opening_of plan rule).answer.code 0 n') (answered (omega arith) w'))

    pub opening-granted :
        (z : handed.answer.code ≡ 0) {early : ℕ} → early ≡ (shown_after handed.answer handed.book).early
        → Wrote out 0 (opened_in handed.book early) 3432 m p
        → (logged_by handed.answer handed.book p ≡ opening_logged plan rule) × Answered out (opening_log plan rule) m p
    opening-granted z {early} e w =
        let z' : (opening_of plan rule).answer.code ≡ 0 = rw o at z in
        let w' : Wrote out 0 (open_log plan rule) 3432 m p = rw (its-text (opening-accepts z) e) at w in
        logged-as (rw (eq-eqb (opening_of plan rule).answer.code 0 z') (answered (omega arith) w'))
