-- What the start rule may count on: at opening, and after a running task of a sound book has ended.
use Prim.Native.Nat.{ℕ, ◌<◌}
use native.Mathlib.Omega.{arith}
use mathlib.Core.Bool.{true}
use mathlib.Core.List.{List}
use mathlib.Core.Path.{◌≡◌, refl}
use mathlib.Core.Logic.{◌≢◌}
use lib.ListN.{length, set}
use borrow.Author.Tests.{eq-eqb, ne_eqb}
use Rattle.laws.proofs.Cases.{by-eq, or_l}
use Rattle.theory.specs.Plan as theory-plan
use Rattle.theory.specs.Book as theory-book
use Rattle.theory.specs.Report.{end_it, blank}
use Rattle.theory.specs.Words.Events.{Accepts}
use Rattle.theory.proofs.Facts.{Sound}
use Rattle.theory.proofs.Past.{past-end-it}
use Rattle.theory.proofs.Reflect.{all-ended-at}
use Rattle.theory.proofs.Task.{started-all}
use Rattle.plan.specs.Value.{at, is_accepted}
use Rattle.plan.specs.declared.Plan.{Plan}
use Rattle.book_view.specs.View.{plan_for}
use Rattle.book_view.proofs.Accepted.{plan-facts, plan-lawful, clash-waits}
use Rattle.book_view.proofs.Laid.{laid-past}
use Rattle.book.specs.View.{plan_in, plan_view, book_view}
use Rattle.book.specs.Private.Table.{seen_as, moved_to, OnEight, InTurn, Onward, Closed, Past, Fit}
use Rattle.book.specs.declared.Book.{Book}
use Rattle.book.specs.declared.StepArrays.{StepArrays}
use Rattle.book.proofs.Views.{past_by, past-blank, set-put}
use Rattle.book.proofs.Soundness.{SoundFacts}

-- nobody has started on a blank book
pub blank-seen : (none : List ℕ) {empty : StepArrays} → empty ≡ moved_to 0 blank → ((j : ℕ) → at none j ≡ 0) → seen_as empty none 0 ≡ blank
blank-seen none e z =
    rw e
    (λ i. record {
      mark = λ j. laid-past 0 (λ k. 0) j (omega arith) i;
      start = λ j. laid-past 0 (λ k. 0) j (omega arith) i;
      end = λ j. laid-past 0 (λ k. 0) j (omega arith) i;
      dropped = λ j. z j i;
      clock = 0;
    })

module _ (rule : ℕ) (plan : Plan) (ok : is_accepted plan ≡ true) where
  plan-boards : OnEight (plan_for rule plan) (at plan.board)
  plan-boards k l =
      let t = (plan-facts plan ok).task k l in let b = (plan-facts plan ok).boards-to in (t.board-from, omega arith)

  pub plan-turns : InTurn (plan_for rule plan) (at plan.board)
  plan-turns i j li lj n e = clash-waits plan ok rule i j li lj n (or_l _ (eq-eqb (at plan.board i) (at plan.board j) e))

  plan-onward : Onward (plan_for rule plan)
  plan-onward i j li lj w =
      let law = plan-lawful plan ok rule in omega (arith, law.before i j li lj w, law.lasts i li)

  fit_on : (book : theory-book.Book) → Closed (plan_for rule plan) book.mark → Past plan.tasks book → Fit (plan_for rule plan) (at plan.board) book
  fit_on book closed past = record {
    few = (plan-facts plan ok).tasks-to;
    onward = plan-onward;
    on = plan-boards;
    turn = plan-turns;
    closed = closed;
    past = past;
  }

  pub fit-blank :
      (none : List ℕ) {empty : StepArrays} → empty ≡ moved_to 0 blank → ((j : ℕ) → at none j ≡ 0)
      → Fit (plan_for rule plan) (at plan.board) (seen_as empty none 0)
  fit-blank none e z = rw (blank-seen none e z) (fit_on blank (λ i j li lj n w. absurd (n refl)) (past-blank plan.tasks))

-- one more running task ended
closed-ended :
    (plan : theory-plan.Plan) (book : theory-book.Book) (k tick : ℕ) → Sound plan book → Accepts plan book k tick
    → Closed plan (end_it book k tick).mark
closed-ended plan book k tick sound ok i j li lj n w =
    by-eq j k
    (λ e. rw (eq-eqb j k e))
    (λ e.
    let started : book.mark i ≢ 0 =
    by-eq i k
    (λ q z. let r : book.mark i ≡ 1 = rw q ok.runs in omega arith)
    (λ q z. n (rw (ne_eqb i k q) z)) in
    rw (ne_eqb j k e) (all-ended-at plan book.mark i (started-all (sound.task i li) started) j lj w))

module _ (book : Book) (k tick : ℕ) (size-mark : length book.mark ≡ 64) (size-end : length book.end ≡ 64) (place : k < 64)
    {ended : StepArrays} (e : ended ≡ record { mark = set book.mark k 2; start = book.start; end = set book.end k tick }) where
  pub ended-seen : seen_as ended book.dropped tick ≡ end_it (book_view book) k tick
  ended-seen =
      rw e
      (λ i. record {
        mark = λ j. set-put book.mark k 2 (omega arith) j i;
        start = at book.start;
        end = λ j. set-put book.end k tick (omega arith) j i;
        dropped = at book.dropped;
        clock = tick;
      })

  pub fit-ended :
      SoundFacts book → Accepts (plan_view book) (book_view book) k tick
      → Fit (plan_view book) (at book.board) (seen_as ended book.dropped tick)
  fit-ended f ok =
      rw ended-seen
      (fit_on book.rule (plan_in book) f.accepted (end_it (book_view book) k tick)
      (closed-ended (plan_view book) (book_view book) k tick f.sound ok)
      (past_by (plan_view book) _ _ (past-end-it (plan_view book) (book_view book) k tick ok.task) f.past))
