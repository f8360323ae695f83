-- The book of a converted plan: the same but for edition and holds.
use Prim.Native.Nat.{ℕ, ◌+◌, ◌-◌, ◌<◌}
use mathlib.Core.Bool.{Bool, true, ◌&&◌, ◌||◌}
use mathlib.Core.List.{List, [], ◌∷◌}
use mathlib.Core.Path.{◌≡◌, refl, sym, ap, subst, ◌∙◌}
use mathlib.Core.Logic.{◌⊎◌, ⊎_elim}
use lib.Dec.{eqb, leb}
use Rattle.laws.proofs.Cases.{by_bool, and_l}
use Rattle.theory.specs.Plan as theory-plan
use Rattle.theory.specs.Book as theory-book
use Rattle.theory.specs.Words.Events.{Event}
use Rattle.theory.specs.Figure.{minimum_early}
use Rattle.theory.specs.Report.{none_past, report_code, drop_code, next}
use Rattle.theory.proofs.Alike.{sound-alike, next-alike, opened-alike}
use Rattle.plan.specs.Answer.{is_granted}
use Rattle.plan.specs.Task.{Task}
use Rattle.plan.specs.Pairs.{same_board, clash_by_drive, is_listed, clash}
use Rattle.plan.specs.Value.{at, task_at, is_accepted}
use Rattle.plan.specs.Convert.{exclusive_plan, converted_of}
use Rattle.plan.specs.declared.Plan.{Plan}
use Rattle.plan.proofs.Judged.{accepted-ranges}
use Rattle.plan.proofs.Converted.{exclusive-task, converted-may, converted-plan, converted-accepted}
use Rattle.book_view.specs.View.{plan_for}
use Rattle.book.specs.View.{plan_in, plan_view, book_view, lay_out}
use Rattle.book.specs.Sound.{is_sound}
use Rattle.book_sound.specs.Sound.{sound_on}
use Rattle.book.specs.Open.{rule_number, opened_on}
use Rattle.book.specs.Report.{code_of, report_answer, next_book, reported_of}
use Rattle.book.specs.Drop.{drop_code_of, drop_answer, dropped_in, dropped_of}
use Rattle.book.specs.Early.{figure_of}
use Rattle.book.specs.Words.Event.{answer_to, book_told}
use Rattle.book.specs.Words.Sized.{SizedPlan}
use Rattle.book.specs.declared.Book.{Book}
use Rattle.book.specs.declared.Rule.{Rule}
use Rattle.book.specs.declared.Rule.TheVariants.{EarlyStart}
use Rattle.book.proofs.Reports.{event-plan, event-rule}
use Rattle.promises.specs.Runs.{opened_book, book_after, run_of}
use Rattle.promises.specs.Conversion.{Unshared, exclusive_book}
use Rattle.promises.proofs.RunView.{Good, good-event, opened-good, opened-is, opened-plan, opened-rule}
use Rattle.promises.proofs.Codes.Exclusive.{unshared-task}

-- the wait sets stay: by Early Start, which looks at no hold, and where nobody shares a drive
abbrev pub SameWaits : ℕ → Plan → Type 0
SameWaits rule plan =
    (i j : ℕ) → i < plan.tasks → j < plan.tasks → (plan_for rule (exclusive_plan plan)).waits i j ≡ (plan_for rule plan).waits i j

pub early-waits : (plan : Plan) → SameWaits 0 plan
unfolding exclusive_plan
early-waits plan i j li lj = refl

clash-by : (task other : ℕ → Task) (a b : ℕ) → task a ≡ other a → task b ≡ other b → clash task a b ≡ clash other a b
clash-by task other a b e f =
    λ k.
    same_board (e k) (f k)
    || (clash_by_drive (e k).holds (f k).holds || (is_listed (e k).after (b + 1) || is_listed (f k).after (a + 1)))

pub unshared-waits : (rule : ℕ) (plan : Plan) → is_accepted plan ≡ true → Unshared plan.tasks (task_at plan) → SameWaits rule plan
unfolding exclusive_plan
unshared-waits rule plan ok none i j li lj =
    ap (λ (b : Bool). (eqb rule 0 || b) && leb (at plan.finish j) (at plan.begin i))
    (clash-by (task_at (exclusive_plan plan)) (task_at plan) i j (own i li) (own j lj))
  where
    own : (k : ℕ) → k < plan.tasks → task_at (exclusive_plan plan) k ≡ task_at plan k
    own k l = exclusive-task plan (accepted-ranges plan ok) k l ∙ unshared-task (task_at plan k) (none k l)

-- a book on a plan that is accepted with its shared holds and with each exclusive, and whose wait sets stay
pub record BothWays (book : Book) : Type 0 where
  pub same : SameWaits book.rule (plan_in book)
  pub ok : is_accepted (plan_in book) ≡ true
  pub anew : is_accepted (exclusive_plan (plan_in book)) ≡ true

module _ (book : Book) (both : BothWays book) where
  abbrev made : theory-plan.Plan
  made = plan_view (exclusive_book book)

  abbrev own : theory-plan.Plan
  own = plan_view book

  agree : (i j : ℕ) → i < book.tasks → j < book.tasks → made.waits i j ≡ own.waits i j
  unfolding exclusive_plan
  agree = both.same

  sound-same : is_sound (exclusive_book book) ≡ is_sound book
  unfolding sound_on exclusive_plan
  sound-same =
      rw (both.ok, both.anew, sound-alike book.tasks (at book.ready) (at book.begin) (at book.finish) made.waits own.waits agree (book_view book))

  next-same : (k tick : ℕ) → next made (book_view book) k tick ≡ next own (book_view book) k tick
  next-same =
      next-alike book.tasks (at book.ready) (at book.begin) (at book.finish) (at book.begin) (at book.finish) made.waits own.waits agree (book_view book)

  report-answer-same : (task tick : ℕ) → report_answer (exclusive_book book) task tick ≡ report_answer book task tick
  unfolding report_answer code_of report_code none_past
  report-answer-same task tick = rw sound-same

  drop-answer-same : (task : ℕ) → drop_answer (exclusive_book book) task ≡ drop_answer book task
  unfolding drop_answer drop_code_of drop_code
  drop-answer-same task = rw sound-same

  pub answer-same : (event : Event) → answer_to (exclusive_book book) event ≡ answer_to book event
  unfolding reported_of dropped_of
  answer-same (Event.ends task tick) = report-answer-same task tick
  answer-same (Event.drops task) = drop-answer-same task

  pub told_same : (event : Event) → book_told (exclusive_book book) event ≡ exclusive_book (book_told book event)
  unfolding reported_of next_book dropped_of dropped_in lay_out exclusive_plan
  told_same (Event.ends task tick) =
      by_bool (is_granted (report_answer book task tick))
      (λ e. rw (report-answer-same task tick, e, next-same (task - 1) tick))
      (λ e. rw (report-answer-same task tick, e))
  told_same (Event.drops task) =
      by_bool (is_granted (drop_answer book task))
      (λ e. rw (drop-answer-same task, e))
      (λ e. rw (drop-answer-same task, e))

  pub figure-same : figure_of (exclusive_book book) ≡ figure_of book
  unfolding figure_of minimum_early
  figure-same = rw sound-same

-- after any reports and drops
pub both_told : (book : Book) → Good book → BothWays book → (event : Event) → BothWays (book_told book event)
both_told book g both event =
    let p = event-plan book g.sound event in
    record {
      same =
          subst (λ (rule : ℕ). SameWaits rule (plan_in (book_told book event))) (sym (event-rule book g.sound event))
          (subst (λ (plan : Plan). SameWaits book.rule plan) (sym p) both.same);
      ok = ap is_accepted p ∙ both.ok;
      anew = ap (λ (x : Plan). is_accepted (exclusive_plan x)) p ∙ both.anew;
    }

both-after : (book : Book) (events : List Event) → Good book → BothWays book → BothWays (book_after book events)
unfolding book_after
both-after book [] g both = both
both-after book (event ∷ later) g both = both-after (book_told book event) later (good-event book event g) (both_told book g both event)

after_same : (book : Book) (events : List Event) → Good book → BothWays book → book_after (exclusive_book book) events ≡ exclusive_book (book_after book events)
unfolding book_after
after_same book [] g both = refl
after_same book (event ∷ later) g both =
    ap (λ (b : Book). book_after b later) (told_same book both event)
    ∙ after_same (book_told book event) later (good-event book event g) (both_told book g both event)

-- opened by a rule
module _ (plan : Plan) (rule : Rule) (ok : is_accepted plan ≡ true) (anew : is_accepted (exclusive_plan plan) ≡ true)
    (same : SameWaits (rule_number rule) plan) where
  pub on_same : opened_on (exclusive_plan plan) rule ≡ exclusive_book (opened_on plan rule)
  unfolding opened_on lay_out exclusive_plan
  on_same =
      ap (λ (seen : theory-book.Book). lay_out (rule_number rule) (exclusive_plan plan) seen)
      (opened-alike plan.tasks (at plan.ready) (at plan.begin) (at plan.finish) (at plan.begin) (at plan.finish) (plan_for (rule_number rule) (exclusive_plan plan)).waits (plan_for (rule_number rule) plan).waits same)

  pub both-opened : BothWays (opened_book plan rule)
  both-opened =
      let p = opened-plan plan rule ok in
      record {
        same =
            subst (λ (n : ℕ). SameWaits n (plan_in (opened_book plan rule))) (sym (opened-rule plan rule ok))
            (subst (λ (x : Plan). SameWaits (rule_number rule) x) (sym p) same);
        ok = ap is_accepted p ∙ ok;
        anew = ap (λ (x : Plan). is_accepted (exclusive_plan x)) p ∙ anew;
      }

-- where the wait sets stay
pub kept-waits :
    (plan : Plan) (rule : Rule) → is_accepted plan ≡ true → (rule ≡ EarlyStart) ⊎ Unshared plan.tasks (task_at plan)
    → SameWaits (rule_number rule) plan
kept-waits plan rule ok keeps =
    ⊎_elim (λ e. subst (λ (r : Rule). SameWaits (rule_number r) plan) (sym e) (early-waits plan)) (unshared-waits (rule_number rule) plan ok) keeps

module _ (plan : Plan) (rule : Rule) (size : SizedPlan plan) (z : (converted_of plan).answer.code ≡ 0)
    (keeps : (rule ≡ EarlyStart) ⊎ Unshared plan.tasks (task_at plan)) where
  ok : is_accepted plan ≡ true
  ok = and_l (is_accepted plan) (eqb plan.edition 1) (converted-may plan z)

  anew : is_accepted (exclusive_plan plan) ≡ true
  anew = ap is_accepted (sym (converted-plan plan z)) ∙ converted-accepted plan z

  start : BothWays (opened_book plan rule)
  start = both-opened plan rule ok anew (kept-waits plan rule ok keeps)

  opened-same : opened_book (exclusive_plan plan) rule ≡ exclusive_book (opened_book plan rule)
  opened-same =
      opened-is (exclusive_plan plan) rule anew ∙ on_same plan rule ok anew (kept-waits plan rule ok keeps)
      ∙ ap exclusive_book (sym (opened-is plan rule ok))

  pub converted-run : (events : List Event) → run_of (converted_of plan).plan rule events ≡ exclusive_book (run_of plan rule events)
  converted-run events =
      ap (λ (x : Plan). run_of x rule events) (converted-plan plan z)
      ∙ ap (λ (b : Book). book_after b events) opened-same
      ∙ after_same (opened_book plan rule) events (opened-good plan rule ok size) start

  module _ (events : List Event) where
    its-both : BothWays (run_of plan rule events)
    its-both = both-after (opened_book plan rule) events (opened-good plan rule ok size) start

    pub converted-answers : (event : Event) → answer_to (run_of (converted_of plan).plan rule events) event ≡ answer_to (run_of plan rule events) event
    converted-answers event =
        ap (λ (b : Book). answer_to b event) (converted-run events) ∙ answer-same (run_of plan rule events) its-both event

    pub converted-figure : figure_of (run_of (converted_of plan).plan rule events) ≡ figure_of (run_of plan rule events)
    converted-figure = ap figure_of (converted-run events) ∙ figure-same (run_of plan rule events) its-both
