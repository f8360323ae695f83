-- The books that the functions put together are those that the definitions lay out.
use Prim.Native.Nat.{ℕ, ◌<◌, ◌≤◌, zero, suc}
use mathlib.Core.Bool.{cond}
use mathlib.Core.List.{List}
use mathlib.Core.Path.{◌≡◌, refl, sym, ap, ◌∙◌}
use lib.ListN.{length, set, replicate}
use Rattle.laws.proofs.Cases.{and_no}
use Rattle.theory.specs.Plan as theory-plan
use Rattle.theory.specs.Book as theory-book
use Rattle.theory.specs.Report.{goes, skips, skip_once, skip_times, let_go, next, blank, opened}
use Rattle.theory.proofs.Step.{next-clock, next-dropped}
use native.Mathlib.Omega.{arith}
use Rattle.plan.specs.Value.{at}
use Rattle.plan.specs.declared.Plan.{Plan}
use Rattle.book_view.specs.View.{plan_for, laid}
use Rattle.book_view.proofs.Accepted.{plan-facts}
use Rattle.book_view.proofs.Laid.{zeros-laid, laid-past}
use Rattle.book.specs.View.{plan_in, plan_view, book_view, lay_out}
use Rattle.book.specs.Open.{rule_number, blank_book, opened_on}
use Rattle.book.specs.Report.{next_book}
use Rattle.book.specs.Drop.{dropped_in}
use Rattle.book.specs.Private.Table.{seen_as, moved_to}
use Rattle.book.specs.declared.Book.{Book}
use Rattle.book.specs.declared.StepArrays.{StepArrays}
use Rattle.book.specs.declared.Rule.{Rule}
use Rattle.book.proofs.Views.{own-laid, set-laid}
use Rattle.book.proofs.Soundness.{SoundFacts}
use Rattle.book.proofs.Fits.{blank-seen, ended-seen}

-- nobody is dropped on a blank book, so nobody is skipped
blank_skip : (plan : theory-plan.Plan) (n : ℕ) → skip_times n plan blank ≡ blank
unfolding skip_times
blank_skip plan zero = refl
blank_skip plan (suc n) = ap (skip_times n plan) once ∙ blank_skip plan n
  where
    none : (v j : ℕ) → cond (skips plan blank j) v 0 ≡ 0
    none v j = rw (and_no (goes plan blank j))

    once : skip_once plan blank ≡ blank
    once =
        λ i. record { mark = λ j. none 2 j i; start = λ j. none 0 j i; end = λ j. none 0 j i; dropped = λ j. 0; clock = 0 }

-- a book by a rule on a plan, with these arrays
abbrev pub book_on : ℕ → Plan → ℕ → List ℕ → List ℕ → List ℕ → List ℕ → Book
book_on rule plan clock mark start end dropped = record {
  edition = plan.edition;
  boards = plan.boards;
  tasks = plan.tasks;
  rule = rule;
  clock = clock;
  board = plan.board;
  ready = plan.ready;
  begin = plan.begin;
  finish = plan.finish;
  start = start;
  end = end;
  mark = mark;
  dropped = dropped;
  holds = plan.holds;
  after = plan.after;
}

abbrev pub book_with : Book → ℕ → List ℕ → List ℕ → List ℕ → List ℕ → Book
book_with book = book_on book.rule (plan_in book)

pub blank-laid :
    (rule : ℕ) (plan : Plan) → book_on rule plan 0 (replicate 64 0) (replicate 64 0) (replicate 64 0) (replicate 64 0) ≡ blank_book rule plan
unfolding lay_out
blank-laid rule plan = let z = zeros-laid plan.tasks in λ i. book_on rule plan 0 (z i) (z i) (z i) (z i)

-- opening
module _ (plan : Plan) (rule : Rule) {book : Book} (b : book ≡ blank_book (rule_number rule) plan) where
  pub blank-plan : plan_in book ≡ plan
  unfolding lay_out
  blank-plan = rw b

  pub blank-rule : book.rule ≡ rule_number rule
  unfolding lay_out
  blank-rule = rw b

  its-clock : book.clock ≡ 0
  unfolding lay_out
  its-clock = rw b

  its-drops : book.dropped ≡ laid plan.tasks (λ i. 0)
  unfolding lay_out
  its-drops = rw b

  -- nothing is known, of however many tasks
  blank_none : book ≡ book_on (rule_number rule) plan 0 (laid 0 (λ i. 0)) (laid 0 (λ i. 0)) (laid 0 (λ i. 0)) (laid 0 (λ i. 0))
  blank_none =
      b ∙ sym (blank-laid (rule_number rule) plan)
      ∙ (let z = zeros-laid 0 in λ i. book_on (rule_number rule) plan 0 (z i) (z i) (z i) (z i))

  pub none_dropped : (j : ℕ) → at book.dropped j ≡ 0
  none_dropped j = ap (λ (x : Book). at x.dropped j) blank_none ∙ laid-past 0 (λ i. 0) j (omega arith)

  module _ {empty moved : StepArrays} (e : empty ≡ moved_to 0 blank)
      (m : moved ≡ moved_to book.tasks (let_go (plan_view book) (skip_times book.tasks (plan_view book) (seen_as empty book.dropped 0)))) where
    moved-is : moved ≡ moved_to plan.tasks (let_go (plan_for (rule_number rule) plan) blank)
    moved-is =
        m
        ∙ ap (λ (seen : theory-book.Book). moved_to book.tasks (let_go (plan_view book) (skip_times book.tasks (plan_view book) seen))) (blank-seen book.dropped e none_dropped)
        ∙ ap (λ (seen : theory-book.Book). moved_to book.tasks (let_go (plan_view book) seen)) (blank_skip (plan_view book) book.tasks)
        ∙ (λ i. moved_to (blank-plan i).tasks (let_go (plan_for (blank-rule i) (blank-plan i)) blank))

    pub opened-laid : book_with book book.clock moved.mark moved.start moved.end book.dropped ≡ opened_on plan rule
    unfolding opened_on opened lay_out
    opened-laid = λ i. book_on (blank-rule i) (blank-plan i) (its-clock i) (moved-is i).mark (moved-is i).start (moved-is i).end (its-drops i)

module _ (book : Book) (f : SoundFacts book) (size-dropped : length book.dropped ≡ 64) where
  few : book.tasks ≤ 64
  few = (plan-facts (plan_in book) f.accepted).tasks-to

  module _ (k tick : ℕ) (size-mark : length book.mark ≡ 64) (size-end : length book.end ≡ 64) (place : k < 64)
      {ended moved : StepArrays} (e : ended ≡ record { mark = set book.mark k 2; start = book.start; end = set book.end k tick })
      (m : moved ≡ moved_to book.tasks (let_go (plan_view book) (skip_times book.tasks (plan_view book) (seen_as ended book.dropped tick)))) where
    next-is : moved ≡ moved_to book.tasks (next (plan_view book) (book_view book) k tick)
    unfolding next
    next-is =
        m
        ∙ ap (λ (b : theory-book.Book). moved_to book.tasks (let_go (plan_view book) (skip_times book.tasks (plan_view book) b)))
        (ended-seen book k tick size-mark size-end place e)

    drops-stay : book.dropped ≡ laid book.tasks (next (plan_view book) (book_view book) k tick).dropped
    drops-stay =
        own-laid book.tasks book.dropped few size-dropped f.past.dropped
        ∙ ap (laid book.tasks) (sym (next-dropped (plan_view book) (book_view book) k tick))

    pub next-laid : book_with book tick moved.mark moved.start moved.end book.dropped ≡ next_book book k tick
    unfolding next_book lay_out
    next-laid =
        λ i. book_with book (sym (next-clock (plan_view book) (book_view book) k tick) i) (next-is i).mark (next-is i).start (next-is i).end (drops-stay i)

  pub dropped-laid :
      (k : ℕ) → length book.mark ≡ 64 → length book.start ≡ 64 → length book.end ≡ 64 → k < book.tasks
      → book_with book book.clock book.mark book.start book.end (set book.dropped k 1) ≡ dropped_in book k
  unfolding dropped_in lay_out
  dropped-laid k size-mark size-start size-end known =
      λ i. book_with book book.clock
      (own-laid book.tasks book.mark few size-mark f.past.mark i)
      (own-laid book.tasks book.start few size-start f.past.start i)
      (own-laid book.tasks book.end few size-end f.past.end i)
      (set-laid book.tasks book.dropped k 1 few size-dropped known f.past.dropped i)
