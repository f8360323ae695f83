-- The log of a text of edition 1 is the log without ready ticks.
use Prim.Native.Nat.{ℕ, zero, suc, ◌+◌}
use mathlib.Core.Path.{◌≡◌, refl, sym, ap, subst, ◌∙◌}
use mathlib.Core.Bool.{true, false, cond}
use mathlib.Core.List.{List, [], ◌++◌}
use lib.Dec.{eqb, ltb}
use lib.ListN.{length}
use borrow.Author.Tests.{ne_eqb}
use Rattle.laws.specs.Lists.{same}
use Rattle.laws.specs.Split.{after}
use Rattle.laws.proofs.Cases.{by-eq}
use Rattle.text.specs.Bytes.{bytes}
use Rattle.text.specs.Line.{LF, line_at, field}
use Rattle.theory.specs.Words.Events.{Event}
use Rattle.plan.specs.Answer.{refuse, granted, is_granted, is_refused}
use Rattle.plan.specs.Value.{is_accepted}
use Rattle.plan.specs.Read.{edition_of, reading_of}
use Rattle.plan.specs.declared.Answer.{Answer}
use Rattle.plan.specs.declared.Plan.{Plan}
use Rattle.plan.specs.declared.Reading.{Reading}
use Rattle.plan.proofs.ReadOk.{text-ok, read_answer, read-accepted, read-sized}
use Rattle.book.specs.View.{plan_in}
use Rattle.book.specs.Open.{rule_number, blank_book, opened_on}
use Rattle.book.specs.Words.Event.{book_told}
use Rattle.book.specs.Words.Sized.{SizedPlan}
use Rattle.book.specs.declared.Book.{Book}
use Rattle.book.specs.declared.Figure.{Figure}
use Rattle.book.specs.declared.BookResult.{BookResult}
use Rattle.book.specs.declared.Rule.{Rule}
use Rattle.book.specs.declared.Rule.TheVariants.{EarlyStart, Clash}
use Rattle.book.proofs.Reports.{event-plan}
use Rattle.log_read.specs.Entries.{next_entry, entry_code}
use Rattle.log_read.specs.Rules.{choice_of}
use Rattle.log_read.specs.Said.{Choice}
use Rattle.log_read.specs.Said.Choice.{Unsaid, Chosen, Malformed}
use Rattle.log_read.specs.Said.{Entry}
use Rattle.log_read.specs.Said.Entry.{End, Drop, Refused}
use Rattle.log_write.specs.Lines.{refused_line}
use Rattle.log_run.specs.Lines.{run_line, start_lines, early_line}
use Rattle.log_run.specs.Log.{shown_after, open_log, told_of, told_log, ends_log, rest_log, chosen_log, log_of}
use Rattle.log_run.specs.declared.StepOutcome.{StepOutcome}
use Rattle.promises.specs.Edition1.{NoReady, plain_opening, seven_reading}
use Rattle.promises.specs.PlainLog.{plain_shown, plain_open_log, plain_answered, plain_ends_log, plain_rest_log, plain_chosen_log, plain_log}
use Rattle.promises.proofs.RunView.{Good, good-event, opened-good, opened-is, opened-plan}
use Rattle.promises.proofs.Unmoved as unmoved
use Rattle.promises.proofs.Codes.Seven as seven

-- a sound book without ready ticks
record Plain (book : Book) : Type 0 where
  good : Good book
  none : NoReady (plan_in book)

plain-told : (book : Book) → Plain book → (event : Event) → Plain (book_told book event)
plain-told book b event = record {
  good = good-event book event b.good;
  none = subst NoReady (sym (event-plan book b.good.sound event)) b.none;
}

-- what is shown of it
shown-same : (answer : Answer) (book : Book) → Plain book → shown_after answer book ≡ plain_shown answer book
shown-same answer book b =
    let f = ap (λ (x : Figure). x.early) (unmoved.figure-unmoved book b.none) in
    λ i. record { answer = answer; book = book; early = cond (is_granted answer) (f i) 0 }

told_same : (n : ℕ) (book : Book) → Plain book → (entry : Entry) → told_of n book entry ≡ plain_answered n book entry
unfolding told_of plain_answered
told_same n book b (End task tick) =
    shown-same _ _ (plain-told book b (Event.ends task tick))
    ∙ ap (λ (x : BookResult). plain_shown x.answer x.book) (unmoved.report-unmoved book b.none task tick)
told_same n book b (Drop task) =
    shown-same _ _ (plain-told book b (Event.drops task))
    ∙ ap (λ (x : BookResult). plain_shown x.answer x.book) (unmoved.drop-unmoved book b.none task)
told_same n book b (Refused code column) = refl

told-plain : (n : ℕ) (book : Book) → Plain book → (entry : Entry) → Plain (told_of n book entry).book
unfolding told_of
told-plain n book b (End task tick) = plain-told book b (Event.ends task tick)
told-plain n book b (Drop task) = plain-told book b (Event.drops task)
told-plain n book b (Refused code column) = b

ends_same : (fuel : ℕ) (book : Book) (n : ℕ) (ends : List ℕ) → Plain book → ends_log fuel book n ends ≡ plain_ends_log fuel book n ends
unfolding ends_log plain_ends_log
ends_same zero book n ends b = refl
ends_same (suc fuel) book n ends b =
    let entry = next_entry ends in
    let t = told_same n book b entry in
    let rest = ends_same fuel (told_of n book entry).book (n + 1) (after LF ends) (told-plain n book b entry) in
    (λ i. cond (eqb (length ends) 0) [] (told_log book entry (told_of n book entry) ++ cond (eqb (entry_code entry) 0) (rest i) []))
    ∙ (λ i. cond (eqb (length ends) 0) [] (told_log book entry (t i) ++ cond (eqb (entry_code entry) 0) (plain_ends_log fuel (t i).book (n + 1) (after LF ends)) []))

module _ (plan : Plan) (ok : is_accepted plan ≡ true) (size : SizedPlan plan) (none : NoReady plan) where
  module _ (rule : Rule) where
    opened-same : opened_on plan rule ≡ (plain_opening plan rule).book
    opened-same = sym (opened-is plan rule ok) ∙ ap (λ (x : BookResult). x.book) (unmoved.opening-unmoved plan rule none)

    opened-plain : Plain (opened_on plan rule)
    opened-plain =
        subst Plain (opened-is plan rule ok)
        (record { good = opened-good plan rule ok size; none = subst NoReady (sym (opened-plan plan rule ok)) none })

    open-same : open_log plan rule ≡ plain_open_log plan rule
    unfolding open_log plain_open_log
    open-same =
        ap (λ (s : StepOutcome). run_line (opened_on plan rule) ++ (start_lines (blank_book (rule_number rule) plan) (opened_on plan rule) plan.tasks ++ early_line s))
        (shown-same granted (opened_on plan rule) opened-plain)
        ∙ ap (λ (b : Book). run_line b ++ (start_lines (blank_book (rule_number rule) plan) b plan.tasks ++ early_line (plain_shown granted b))) opened-same

    rest-same : (n : ℕ) (ends : List ℕ) → open_log plan rule ++ rest_log (opened_on plan rule) n ends ≡ plain_rest_log plan rule n ends
    rest-same n ends =
        (λ i. open-same i ++ ends_same (length ends) (opened_on plan rule) n ends opened-plain i)
        ∙ ap (λ (b : Book). plain_open_log plan rule ++ plain_ends_log (length ends) b n ends) opened-same

  chosen-same : (choice : Choice) (ends : List ℕ) → chosen_log choice plan ends ≡ plain_chosen_log choice plan ends
  unfolding chosen_log plain_chosen_log
  chosen-same Unsaid ends = rest-same EarlyStart 1 ends
  chosen-same Chosen ends = rest-same Clash 2 (after LF ends)
  chosen-same (Malformed column) ends = ap (λ (l : List ℕ). l ++ refused_line (refuse 3 1 column)) (open-same EarlyStart)

-- by a reading: a text that does not say edition 2 is one of edition 1 where it is read
pub log-unmoved :
    (text ends : List ℕ) → same (field (line_at text 0) 1) (bytes "2") ≡ false → log_of text ends ≡ plain_log text ends
unfolding log_of plain_log
log-unmoved text ends first =
    by-eq (reading_of text).answer.code 0
    (λ z.
    let said = ap (λ (x : Answer). x.code) (sym (read_answer false text)) ∙ z in
    let none = unmoved.read-unready text z (one z) in
    let chosen = chosen-same (reading_of text).plan (read-accepted false text said) (read-sized false text said) none (choice_of ends) ends in
    ap (λ (l : List ℕ). printed (reading_of text) l) chosen ∙ ap (λ (r : Reading). printed r (plain_chosen_log (choice_of ends) r.plan ends)) read)
    (λ n.
    let refused : (l m : List ℕ) → printed (reading_of text) l ≡ printed (reading_of text) m = λ l m. rw (ne_eqb (reading_of text).answer.code 0 n) in
    refused _ _ ∙ ap (λ (r : Reading). printed r (plain_chosen_log (choice_of ends) r.plan ends)) read)
  where
    read : reading_of text ≡ seven_reading text
    read = seven.reading-seven text first

    one : (reading_of text).answer.code ≡ 0 → edition_of text ≡ 1
    one z = seven.one text first (text-ok false text (ap (λ (x : Answer). x.code) (sym (read_answer false text)) ∙ z)).form.sizes

    printed : Reading → List ℕ → List ℕ
    printed r l = cond (is_refused r.answer) (refused_line r.answer) (cond (ltb 32768 (length ends)) (refused_line (refuse 1 0 0)) l)
