-- A text of edition 1 that is made edition 2 gives the same log with the same ends.
use Prim.Native.Nat.{ℕ, zero, suc, ◌+◌}
use mathlib.Core.Bool.{true, false, cond}
use mathlib.Core.List.{List, [], ◌++◌}
use mathlib.Core.Path.{◌≡◌, refl, sym, ap, ◌∙◌}
use mathlib.Core.Logic.{◌≢◌, ◌⊎◌, ⊎_elim}
use lib.Dec.{eqb}
use lib.ListN.{length}
use borrow.Author.Tests.{eq-eqb, ne_eqb}
use Rattle.laws.proofs.Cases.{by-eq}
use Rattle.laws.specs.Split.{after}
use Rattle.laws.specs.Lists.{same}
use Rattle.text.specs.Bytes.{bytes}
use Rattle.text.specs.Line.{LF, line_at, field, lines_below}
use Rattle.theory.specs.Words.Events.{Event}
use Rattle.plan.specs.Answer.{granted, is_granted}
use Rattle.plan.specs.Value.{is_accepted, task_at}
use Rattle.plan.specs.Read.{reading_of}
use Rattle.plan.specs.Convert.{exclusive_plan, converted_of, renewed_of}
use Rattle.plan.specs.Write.{text_of}
use Rattle.plan.specs.declared.Answer.{Answer}
use Rattle.plan.specs.declared.Plan.{Plan}
use Rattle.plan.specs.declared.Reading.{Reading}
use Rattle.plan.proofs.ReadOk.{read_answer, read-accepted, read-sized}
use Rattle.plan.proofs.Converted.{exclusive-sized, converted-plan, converted-accepted}
use Rattle.plan.proofs.RoundPlan.{plan-back}
use Rattle.book.specs.View.{lay_out}
use Rattle.book.specs.Open.{rule_number, blank_book, opened_on}
use Rattle.book.specs.Early.{figure_of}
use Rattle.book.specs.Words.Event.{answer_to, book_told}
use Rattle.book.specs.Words.Sized.{SizedPlan}
use Rattle.book.specs.declared.Book.{Book}
use Rattle.book.specs.declared.Figure.{Figure}
use Rattle.book.specs.declared.Rule.{Rule}
use Rattle.book.specs.declared.Rule.TheVariants.{EarlyStart, Clash}
use Rattle.log_read.specs.Entries.{entry_code, next_entry}
use Rattle.log_read.specs.Said.{Entry}
use Rattle.log_read.specs.Said.Entry.{End, Drop, Refused}
use Rattle.log_read.specs.Rules.{choice_of}
use Rattle.log_read.specs.Said.{Choice}
use Rattle.log_read.specs.Said.Choice.{Unsaid, Chosen, Malformed}
use Rattle.log_write.specs.Lines.{refused_line}
use Rattle.log_run.specs.Lines.{run_line, end_line, start_lines, has_started, start_line, early_line}
use Rattle.log_run.specs.Log.{shown_after, open_log, told_of, lines_of, told_log, ends_log, rest_log, chosen_log, log_of}
use Rattle.log_run.specs.declared.StepOutcome.{StepOutcome}
use Rattle.plan_convert.specs.Renewed.{renewed_text}
use Rattle.promises.specs.Conversion.{Unshared, exclusive_book}
use Rattle.promises.proofs.RunView.{Good, good-event, opened-good, opened-is}
use Rattle.promises.proofs.Codes.ConvertedBook.{SameWaits, BothWays, early-waits, unshared-waits, answer-same, told_same, figure-same, both_told, on_same, both-opened}

-- ---- the lines of a book look at neither its plan's edition nor its holds

starts-same : (old new : Book) (n : ℕ) → start_lines (exclusive_book old) (exclusive_book new) n ≡ start_lines old new n
unfolding lines_below
starts-same old new zero = refl
starts-same old new (suc n) = ap (λ (l : List ℕ). l ++ cond (has_started old new n) (start_line new n) []) (starts-same old new n)

lines_same : (book : Book) (entry : Entry) (told : Book) → lines_of (exclusive_book book) entry (exclusive_book told) ≡ lines_of book entry told
lines_same book (End task tick) told = ap (λ (l : List ℕ). end_line told task ++ l) (starts-same book told book.tasks)
lines_same book (Drop task) told = refl
lines_same book (Refused code column) told = refl

-- what is shown, on the converted plan
abbrev exclusive_shown : StepOutcome → StepOutcome
exclusive_shown shown = record { answer = shown.answer; book = exclusive_book shown.book; early = shown.early }

told-log-same : (book : Book) (entry : Entry) (told : StepOutcome) → told_log (exclusive_book book) entry (exclusive_shown told) ≡ told_log book entry told
unfolding told_log
told-log-same book entry told =
    ap (λ (l : List ℕ). cond (is_granted told.answer) (l ++ early_line told) (refused_line told.answer)) (lines_same book entry told.book)

-- a sound book on a plan that is accepted both ways, and whose wait sets stay
record Both (book : Book) : Type 0 where
  good : Good book
  ways : BothWays book

both-event : (book : Book) (event : Event) → Both book → Both (book_told book event)
both-event book event b = record { good = good-event book event b.good; ways = both_told book b.good b.ways event }

shown-same :
    (book : Book) → Both book → (event : Event)
    → shown_after (answer_to (exclusive_book book) event) (book_told (exclusive_book book) event) ≡ exclusive_shown (shown_after (answer_to book event) (book_told book event))
shown-same book b event =
    let a = answer-same book b.ways event in
    let t = told_same book b.ways event in
    let n = both-event book event b in
    let f = ap (λ (x : Figure). x.early) (figure-same (book_told book event) n.ways) in
    (λ i. shown_after (a i) (t i))
    ∙ (λ i. record { answer = answer_to book event; book = exclusive_book (book_told book event); early = cond (is_granted (answer_to book event)) (f i) 0 })

told-of-same : (n : ℕ) (book : Book) → Both book → (entry : Entry) → told_of n (exclusive_book book) entry ≡ exclusive_shown (told_of n book entry)
unfolding told_of
told-of-same n book b (End task tick) = shown-same book b (Event.ends task tick)
told-of-same n book b (Drop task) = shown-same book b (Event.drops task)
told-of-same n book b (Refused code column) = refl

told-both : (n : ℕ) (book : Book) → Both book → (entry : Entry) → Both (told_of n book entry).book
unfolding told_of
told-both n book b (End task tick) = both-event book (Event.ends task tick) b
told-both n book b (Drop task) = both-event book (Event.drops task) b
told-both n book b (Refused code column) = b

ends_same : (fuel : ℕ) (book : Book) (n : ℕ) (ends : List ℕ) → Both book → ends_log fuel (exclusive_book book) n ends ≡ ends_log fuel book n ends
unfolding ends_log
ends_same zero book n ends b = refl
ends_same (suc fuel) book n ends b =
    let entry = next_entry ends in
    let t = told-of-same n book b entry in
    let rest = ends_same fuel (told_of n book entry).book (n + 1) (after LF ends) (told-both n book b entry) in
    (λ i.
    cond (eqb (length ends) 0) []
    (told_log (exclusive_book book) entry (t i) ++ cond (eqb (entry_code entry) 0) (ends_log fuel (t i).book (n + 1) (after LF ends)) []))
    ∙ (λ i. cond (eqb (length ends) 0) [] (told-log-same book entry (told_of n book entry) i ++ cond (eqb (entry_code entry) 0) (rest i) []))

-- ---- the whole log

module _ (plan : Plan) (ok : is_accepted plan ≡ true) (size : SizedPlan plan) (anew : is_accepted (exclusive_plan plan) ≡ true) where
  -- opened by a rule whose wait sets stay
  module _ (rule : Rule) (waits : SameWaits (rule_number rule) plan) where
    opened_both : Both (opened_on plan rule)
    opened_both =
        let e = opened-is plan rule ok in
        record { good = rw e at (opened-good plan rule ok size); ways = rw e at (both-opened plan rule ok anew waits) }

    blank-same : blank_book (rule_number rule) (exclusive_plan plan) ≡ exclusive_book (blank_book (rule_number rule) plan)
    unfolding lay_out exclusive_plan
    blank-same = refl

    open-same : open_log (exclusive_plan plan) rule ≡ open_log plan rule
    unfolding open_log exclusive_plan
    open-same =
        let book = opened_on plan rule in
        let none = blank_book (rule_number rule) in
        let f = ap (λ (x : Figure). x.early) (figure-same book opened_both.ways) in
        ap (λ (x : Book). run_lines x (start_lines (none (exclusive_plan plan)) x plan.tasks) (figure_of x).early) (on_same plan rule ok anew waits)
        ∙ ap (λ (x : Book). run_lines (exclusive_book book) (start_lines x (exclusive_book book) plan.tasks) (figure_of (exclusive_book book)).early) blank-same
        ∙ (λ i. run_lines book (starts-same (none plan) book plan.tasks i) (f i))
      where
        run_lines : Book → List ℕ → ℕ → List ℕ
        run_lines book starts early = run_line book ++ (starts ++ early_line (record { answer = granted; book = book; early = early }))

    rest-same : (n : ℕ) (ends : List ℕ) → open_log (exclusive_plan plan) rule ++ rest_log (opened_on (exclusive_plan plan) rule) n ends ≡ open_log plan rule ++ rest_log (opened_on plan rule) n ends
    rest-same n ends = rw (open-same, on_same plan rule ok anew waits, ends_same (length ends) (opened_on plan rule) n ends opened_both)

  chosen-same :
      (choice : Choice) (ends : List ℕ) → (choice ≢ Chosen) ⊎ Unshared plan.tasks (task_at plan)
      → chosen_log choice (exclusive_plan plan) ends ≡ chosen_log choice plan ends
  unfolding chosen_log
  chosen-same Unsaid ends keeps = rest-same EarlyStart (early-waits plan) 1 ends
  chosen-same Chosen ends keeps =
      ⊎_elim (λ other. absurd (other refl)) (λ none. rest-same Clash (unshared-waits 1 plan ok none) 2 (after LF ends)) keeps
  chosen-same (Malformed column) ends keeps = rw (open-same EarlyStart (early-waits plan))

  -- read from their texts
  text_same :
      (text ends : List ℕ) → (choice_of ends ≢ Chosen) ⊎ Unshared plan.tasks (task_at plan) → (reading_of text).answer.code ≡ 0
      → (reading_of text).plan ≡ plan → log_of (text_of (exclusive_plan plan)) ends ≡ log_of text ends
  unfolding log_of
  text_same text ends keeps z p =
      let q = plan-back (exclusive_plan plan) anew (exclusive-sized plan size) in
      rw (q, eq-eqb (reading_of text).answer.code 0 z, p, chosen-same (choice_of ends) ends keeps)

pub converted-log :
    (text ends : List ℕ) → (choice_of ends ≢ Chosen) ⊎ Unshared (reading_of text).plan.tasks (task_at (reading_of text).plan) → same (field (line_at text 0) 1) (bytes "1") ≡ true → (renewed_of text).answer.code ≡ 0
    → log_of (renewed_text text) ends ≡ log_of text ends
unfolding renewed_text renewed_of
converted-log text ends keeps one z =
    by-eq (reading_of text).answer.code 0
    (λ y.
    let r : renewed_of text ≡ converted_of (reading_of text).plan = rw (one, eq-eqb (reading_of text).answer.code 0 y) in
    let c : (converted_of (reading_of text).plan).answer.code ≡ 0 = ap (λ (x : Reading). x.answer.code) (sym r) ∙ z in
    let plan = (reading_of text).plan in
    let p : (renewed_of text).plan ≡ exclusive_plan plan = ap (λ (x : Reading). x.plan) r ∙ converted-plan plan c in
    let said = ap (λ (x : Answer). x.code) (sym (read_answer false text)) ∙ y in
    let new = ap is_accepted (sym (converted-plan plan c)) ∙ converted-accepted plan c in
    rw (eq-eqb (renewed_of text).answer.code 0 z, p) (text_same plan (read-accepted false text said) (read-sized false text said) new text ends keeps y refl))
    (λ n.
    let r : renewed_of text ≡ reading_of text = rw (one, ne_eqb (reading_of text).answer.code 0 n) in
    absurd (n (ap (λ (x : Reading). x.answer.code) (sym r) ∙ z)))
