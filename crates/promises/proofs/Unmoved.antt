-- Where every ready tick is 0 the calls answer and hand back what the rule without ready ticks does.
use Prim.Native.Nat.{ℕ, ◌-◌, ◌≤◌, ◌<◌}
use native.Mathlib.Omega.{arith}
use mathlib.Core.Bool.{Bool, true, false, not, cond, ◌&&◌}
use mathlib.Core.List.{List, [], ◌∷◌}
use mathlib.Core.Path.{◌≡◌, refl, sym, ap, subst, ◌∙◌}
use lib.Dec.{eqb}
use borrow.Author.Tests.{eqb-true, ne_eqb}
use Rattle.laws.proofs.Cases.{by_bool}
use Rattle.theory.specs.Report.{none_past, report_code, drop_code}
use Rattle.theory.specs.Words.Events.{Event}
use Rattle.theory.specs.Figure.{minimum_early}
use Rattle.theory.specs.Words.Unready.{plain_early}
use Rattle.theory.proofs.Unready.{opened-plain, next-plain, sound-plain, figure-plain, begun-by}
use Rattle.plan.specs.Answer.{refuse, granted, is_granted}
use Rattle.plan.specs.Value.{at, zero_plan, plan_of, is_accepted}
use Rattle.plan.specs.Read.{edition_of, reading_of}
use Rattle.plan.specs.declared.Answer.{Answer}
use Rattle.plan.specs.declared.Plan.{Plan}
use Rattle.plan.proofs.Judged.{accepted-ranges}
use Rattle.plan.proofs.PlanTasks.{ranges-kept, task-kept}
use Rattle.plan.proofs.ReadOk.{read_answer, read-plan, read-accepted}
use Rattle.book_view.specs.View.{is_rule, plan_for}
use Rattle.book_view.proofs.Accepted.{plan-lawful}
use Rattle.book_sound.specs.Sound.{nothing_past, sound_on}
use Rattle.book.specs.View.{plan_in, plan_view, book_view, lay_out}
use Rattle.book.specs.Sound.{is_sound}
use Rattle.book.specs.Open.{rule_number, blank_book, opened_on, opening_of}
use Rattle.book.specs.Report.{code_of, report_answer, next_book, reported_of}
use Rattle.book.specs.Drop.{drop_code_of, drop_answer, dropped_in, dropped_of}
use Rattle.book.specs.Early.{figure_of}
use Rattle.book.specs.Words.Event.{book_told}
use Rattle.book.specs.Words.Sized.{SizedPlan}
use Rattle.book.specs.declared.Book.{Book}
use Rattle.book.specs.declared.BookResult.{BookResult}
use Rattle.book.specs.declared.Rule.{Rule}
use Rattle.book.proofs.Reports.{event-plan}
use Rattle.book.proofs.Soundness.{SoundFacts, is-sound-facts}
use Rattle.promises.specs.Runs.{opened_book, book_after, run_of, Running, start_of}
use Rattle.promises.specs.Edition1.{NoReady, plain_opening, plain_is_sound, plain_answer, plain_report, plain_drop, plain_figure, plain_told, plain_book_after, with_ready}
use Rattle.promises.proofs.RunView.{Good, good-event, opened-good, opened-plan}

-- an accepted plan of edition 1 has no ready tick
pub edition-unready : (plan : Plan) → is_accepted plan ≡ true → plan.edition ≡ 1 → NoReady plan
edition-unready plan ok one i l =
    let r = ranges-kept plan (accepted-ranges plan ok) in
    let k = (task-kept plan i (r.kept i l)).edition in
    eqb-true (at plan.ready i) 0 (rw (ne_eqb plan.edition 2 (λ two. omega arith)) at k)

pub book-unready : (book : Book) → is_sound book ≡ true → book.edition ≡ 1 → NoReady (plan_in book)
book-unready book h one = edition-unready (plan_in book) ((is-sound-facts book).0 h).accepted one

-- and so has the plan that a text of edition 1 reads as
module _ (text : List ℕ) (z : (reading_of text).answer.code ≡ 0) (one : edition_of text ≡ 1) where
  pub read-edition : (reading_of text).plan.edition ≡ 1
  unfolding plan_of
  read-edition =
      ap (λ (p : Plan). p.edition) (read-plan false text (sym (ap (λ (x : Answer). x.code) (read_answer false text)) ∙ z)) ∙ one

  pub read-unready : NoReady (reading_of text).plan
  read-unready =
      edition-unready (reading_of text).plan (read-accepted false text (sym (ap (λ (x : Answer). x.code) (read_answer false text)) ∙ z)) read-edition

-- opening
pub opening-unmoved : (plan : Plan) (rule : Rule) → NoReady plan → opening_of plan rule ≡ plain_opening plan rule
unfolding opening_of opened_on
opening-unmoved plan rule none =
    ap
    (λ (b : Book). cond {A = BookResult} (is_accepted plan) (record { answer = granted; book = b }) (record { answer = refuse 9 0 0; book = blank_book 0 zero_plan }))
    (ap (lay_out (rule_number rule) plan) (opened-plain (plan_for (rule_number rule) plan) none))

module _ (book : Book) (none : NoReady (plan_in book)) where
  pub sound-unmoved : is_sound book ≡ plain_is_sound book
  unfolding sound_on
  sound-unmoved =
      ap
      (λ (b : Bool). (is_accepted (plan_in book) && is_rule book.rule) && (b && nothing_past book.tasks book.mark book.start book.end book.dropped))
      (sound-plain (plan_view book) none (book_view book))

  answer-unmoved :
      (code first second : ℕ)
      → cond (not (is_sound book)) (refuse 9 0 0) (cond (eqb code 0) granted (refuse code first second)) ≡ plain_answer book code first second
  answer-unmoved code first second =
      ap (λ (b : Bool). cond (not b) (refuse 9 0 0) (cond (eqb code 0) granted (refuse code first second))) sound-unmoved

  pub report-unmoved : (task tick : ℕ) → reported_of book task tick ≡ plain_report book task tick
  unfolding reported_of report_answer next_book
  report-unmoved task tick =
      let said = answer-unmoved (code_of book task tick) task tick in
      let after = ap (lay_out book.rule (plan_in book)) (next-plain (plan_view book) none (book_view book) (task - 1) tick) in
      λ i. record { answer = said i; book = cond (is_granted (said i)) (after i) book }

  pub drop-unmoved : (task : ℕ) → dropped_of book task ≡ plain_drop book task
  unfolding dropped_of drop_answer dropped_in
  drop-unmoved task =
      let said = answer-unmoved (drop_code_of book task) task 0 in
      λ i. record { answer = said i; book = cond (is_granted (said i)) (dropped_in book (task - 1)) book }

  told-unmoved : (event : Event) → book_told book event ≡ plain_told book event
  told-unmoved (Event.ends task tick) = ap (λ (x : BookResult). x.book) (report-unmoved task tick)
  told-unmoved (Event.drops task) = ap (λ (x : BookResult). x.book) (drop-unmoved task)

  module _ (h : is_sound book ≡ true) where
    facts : SoundFacts book
    facts = (is-sound-facts book).0 h

    -- nobody's start lies past the clock
    pub starts-by-clock : (i : ℕ) → i < book.tasks → Running book i → start_of book i ≤ book.clock
    starts-by-clock = begun-by (plan_view book) none (plan-lawful (plan_in book) facts.accepted book.rule) (book_view book) facts.sound

    early-unmoved : minimum_early (plan_view book) (book_view book) ≡ plain_early (plan_view book) (book_view book)
    early-unmoved = figure-plain (plan_view book) none (plan-lawful (plan_in book) facts.accepted book.rule) (book_view book) facts.sound

  pub figure-unmoved : figure_of book ≡ plain_figure book
  unfolding figure_of
  figure-unmoved =
      by_bool (is_sound book) (λ h. rw (h, sym sound-unmoved ∙ h, early-unmoved h)) (λ h. rw (h, sym sound-unmoved ∙ h))

-- any reports and drops
pub after-unmoved :
    (book : Book) (events : List Event) → NoReady (plan_in book) → Good book → book_after book events ≡ plain_book_after book events
unfolding book_after plain_book_after
after-unmoved book [] none g = refl
after-unmoved book (event ∷ later) none g =
    after-unmoved (book_told book event) later (subst NoReady (sym (event-plan book g.sound event)) none) (good-event book event g)
    ∙ ap (λ (b : Book). plain_book_after b later) (told-unmoved book none event)

pub run-unmoved :
    (plan : Plan) (rule : Rule) → SizedPlan plan → is_accepted plan ≡ true → NoReady plan → (events : List Event)
    → run_of plan rule events ≡ plain_book_after (plain_opening plan rule).book events
run-unmoved plan rule size ok none events =
    after-unmoved (opened_book plan rule) events (subst NoReady (sym (opened-plan plan rule ok)) none) (opened-good plan rule ok size)
    ∙ ap (λ (x : BookResult). plain_book_after x.book events) (opening-unmoved plan rule none)

-- the codes of reports and drops look at no ready tick
pub report-code-unready : (book : Book) (ready : List ℕ) (task tick : ℕ) → code_of (with_ready book ready) task tick ≡ code_of book task tick
unfolding code_of report_code none_past
report-code-unready book ready task tick = refl

pub drop-code-unready : (book : Book) (ready : List ℕ) (task : ℕ) → drop_code_of (with_ready book ready) task ≡ drop_code_of book task
unfolding drop_code_of drop_code
drop-code-unready book ready task = refl
