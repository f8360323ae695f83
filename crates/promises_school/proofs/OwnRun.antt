-- The whole log: its first line, and that the others add up to the last book.
use Prim.Native.Nat.{ℕ, suc, ◌+◌, ◌≤◌, ◌<◌}
use native.Mathlib.Omega.{arith}
use mathlib.Core.Path.{◌≡◌, refl, sym, ap, subst, ◌∙◌}
use mathlib.Core.Bool.{true, false}
use mathlib.Core.List.{List, [], ◌∷◌, ◌++◌, append_assoc}
use lib.ListN.{length, get_or, length-drop, length-take}
use borrow.Author.Tests.{eq-eqb, ne_eqb, le-ltb}
use Rattle.laws.specs.Lists.{all_of}
use Rattle.laws.specs.Digits.{digits_of}
use Rattle.laws.specs.Split.{index_of, after}
use Rattle.laws.proofs.Cases.{and-of}
use Rattle.text.specs.Bytes.{bytes}
use Rattle.text.specs.Line.{TAB, LF, field}
use Rattle.text.specs.Number.{most}
use Rattle.text.proofs.Numerals.{digits-free}
use Rattle.laws.proofs.Split.{free}
use Rattle.plan.specs.Answer.{refuse}
use Rattle.plan.specs.Value.{at, is_accepted}
use Rattle.plan.specs.Read.{reading_of}
use Rattle.plan.specs.declared.Answer.{Answer}
use Rattle.plan.specs.declared.Plan.{Plan}
use Rattle.plan.proofs.ReadOk.{read_answer, read-accepted, read-sized}
use Rattle.book_view.proofs.Laid.{zeros-laid, at-zeros}
use Rattle.book.specs.View.{lay_out}
use Rattle.book.specs.Open.{rule_number, blank_book, opened_on}
use Rattle.book.specs.Early.{figure_of}
use Rattle.book.specs.declared.Book.{Book}
use Rattle.book.specs.declared.Rule.{Rule}
use Rattle.book.specs.declared.Rule.TheVariants.{EarlyStart, Clash}
use Rattle.log_read.specs.Rules.{choice_of}
use Rattle.log_read.specs.Said.{Choice}
use Rattle.log_read.specs.Said.Choice.{Unsaid, Chosen, Malformed}
use Rattle.log_write.specs.Lines.{run_by, numbers_line, refused_line}
use Rattle.log_run.specs.Lines.{start_lines}
use Rattle.log_run.specs.Log.{open_log, rest_log, chosen_log, log_of}
use Rattle.school.specs.Lines.{is_run}
use Rattle.promises.specs.Runs.{SizedPlan, Dropped, book_after}
use Rattle.promises.specs.Says.{choice_answer, ChoiceSays}
use Rattle.promises.proofs.RunView.{opened-is}
use Rattle.promises.proofs.SoundRun.{OnPlan, on-run, nobody-ended, undropped, clock-zero}
use Rattle.promises.proofs.Codes.RuleLine.{choice-says}
use Rattle.promises_school.proofs.WholeLines.{Whole, whole_append, NoDrop, none-later, one_line, numbers-line}
use Rattle.promises_school.proofs.LineSays.{run-says, clash-says}
use Rattle.promises_school.proofs.Adds.{Known, Adds}
use Rattle.promises_school.proofs.OwnPrinted.{Printed, printed-append, printed-like, early-printed, refused-printed, start_known, end_known, known_in, starts-printed}
use Rattle.promises_school.proofs.Turns.{Turn, figure-small}
use Rattle.promises_school.proofs.EndsRun.{ends-step}

-- line 1
pub record FirstLine (boards tasks : ℕ) (text : List ℕ) : Type 0 where
  pub line : List ℕ
  pub whole : Whole text (line ∷ [])
  pub runs : is_run boards tasks line ≡ true
  pub word : field line 0 ≡ bytes "run"

first_line : (rule : Rule) (boards tasks : ℕ) → FirstLine boards tasks (run_by (rule_number rule) boards tasks)
unfolding run_by all_of
first_line EarlyStart boards tasks =
    let one = numbers-line (bytes "run") (1 ∷ boards ∷ tasks ∷ []) (refl, refl) in
    record {
      line = one.line;
      whole = one.whole;
      runs = run-says boards tasks one.line one.has;
      word = ap (λ (p : List (List ℕ)). get_or p 0 []) one.has;
    }
first_line Clash boards tasks =
    let one =
    one_line (bytes "run") (digits_of 2 ∷ digits_of boards ∷ digits_of tasks ∷ bytes "clash" ∷ [])
    (clean TAB (omega arith) refl refl, clean LF (omega arith) refl refl) in
    record {
      line = one.line;
      whole = one.whole;
      runs = clash-says boards tasks one.line one.has;
      word = ap (λ (p : List (List ℕ)). get_or p 0 []) one.has;
    }
  where
    clean : (c : ℕ) → c < 48 → free c (bytes "run") ≡ true → free c (bytes "clash") ≡ true → all_of (free c) (bytes "run" ∷ digits_of 2 ∷ digits_of boards ∷ digits_of tasks ∷ bytes "clash" ∷ []) ≡ true
    clean c l r w = and-of r (and-of (digits-free c 2 l) (and-of (digits-free c boards l) (and-of (digits-free c tasks l) (and-of w refl))))

-- nothing is known yet
abbrev pub nothing : Known
nothing = record { start = λ i. 0; end = λ i. 0 }

module _ (plan : Plan) (rule : Rule) (size : SizedPlan plan) (ok : is_accepted plan ≡ true) where
  abbrev opened : Book
  opened = opened_on plan rule

  abbrev blank : Book
  blank = blank_book (rule_number rule) plan

  pub opened-on : OnPlan plan rule opened
  unfolding book_after
  opened-on = subst (OnPlan plan rule) (opened-is plan rule ok) (on-run plan rule size ok [])

  pub opened-undropped : (i : ℕ) → i < plan.tasks → Dropped opened i → ⊥
  opened-undropped i l d = undropped plan rule size ok i (subst (λ (b : Book). Dropped b i) (sym (opened-is plan rule ok)) d)

  blank-waits : (i : ℕ) → at blank.mark i ≡ 0
  unfolding lay_out
  blank-waits i = ap (λ (l : List ℕ). at l i) (sym (zeros-laid plan.tasks)) ∙ at-zeros i

  nobody : (i : ℕ) → i < plan.tasks → end_known opened i ≡ 0
  nobody i l =
      let e = opened-is plan rule ok in
      let t : opened.tasks ≡ plan.tasks = ap (λ (p : Plan). p.tasks) opened-on.same in
      rw (ne_eqb (at opened.mark i) 2 (λ q.
      nobody-ended plan rule size ok i (rw e (omega arith)) (subst (λ (b : Book). at b.mark i ≡ 2) (sym e) q)))

  pub open-printed :
      Printed plan nothing (known_in opened)
      (start_lines blank opened plan.tasks ++ numbers_line (bytes "early") (opened.clock ∷ (figure_of opened).early ∷ []))
  open-printed =
      let clock : opened.clock ≡ 0 = subst (λ (b : Book). b.clock ≡ 0) (opened-is plan rule ok) (clock-zero plan rule size ok) in
      printed-append plan nothing (known_in opened) (known_in opened) _ _
      (printed-like plan (record { start = start_known blank; end = λ i. 0 }) (record { start = start_known opened; end = λ i. 0 }) nothing (known_in opened) _
      (λ i l. rw (eq-eqb (at blank.mark i) 0 (blank-waits i))) (λ i l. refl) (λ i l. refl) (λ i l. sym (nobody i l))
      (starts-printed plan rule size ok blank opened opened-on opened-undropped (λ i l n. absurd (n (blank-waits i))) (λ i. 0)))
      (early-printed plan (known_in opened) opened.clock (figure_of opened).early (omega arith) (figure-small plan rule size ok opened opened-on))

-- a log of whole lines: the first is `run`, the others add up to a book
pub record OwnRun (plan : Plan) (log : List ℕ) : Type 0 where
  pub rule : Rule
  pub book : Book
  pub on : OnPlan plan rule book
  pub undropped : (i : ℕ) → i < plan.tasks → Dropped book i → ⊥
  pub first : FirstLine plan.boards plan.tasks (run_by (rule_number rule) plan.boards plan.tasks)
  pub lines : List (List ℕ)
  pub whole : Whole log (first.line ∷ lines)
  pub adds : Adds plan nothing (known_in book) lines

module _ (plan : Plan) (size : SizedPlan plan) (ok : is_accepted plan ≡ true) where
  -- the opening, and what follows it
  module _ (rule : Rule) where
    abbrev start : List ℕ
    start =
        start_lines (blank_book (rule_number rule) plan) (opened_on plan rule) plan.tasks
        ++ numbers_line (bytes "early") ((opened_on plan rule).clock ∷ (figure_of (opened_on plan rule)).early ∷ [])

    abbrev run : List ℕ
    run = run_by (rule_number rule) plan.boards plan.tasks

    open_is : open_log plan rule ≡ run ++ start
    unfolding open_log
    open_is =
        let on = opened-on plan rule size ok in
        λ i. run_by (on.by i) (on.same i).boards (on.same i).tasks ++ start

    pub after_open : (rest : List ℕ) → NoDrop (open_log plan rule ++ rest) → NoDrop rest
    after_open rest nodrop =
        none-later rest
        (whole_append start (open-printed plan rule size ok).lines (first_line rule plan.boards plan.tasks).whole (open-printed plan rule size ok).whole)
        (subst (λ (s : List ℕ). NoDrop (s ++ rest)) open_is nodrop)

    pub open-run :
        (next : Book) (rest : List ℕ) → Turn plan rule size ok (opened_on plan rule) next rest → OwnRun plan (open_log plan rule ++ rest)
    open-run next rest turn =
        let first = first_line rule plan.boards plan.tasks in
        let later = printed-append plan nothing (known_in (opened_on plan rule)) (known_in next) start rest (open-printed plan rule size ok) turn.printed in
        record {
          rule = rule;
          book = next;
          on = turn.on;
          undropped = turn.undropped;
          first = first;
          lines = later.lines;
          whole = subst (λ (s : List ℕ). Whole s (first.line ∷ later.lines))
              (sym (append_assoc run start rest) ∙ ap (λ (s : List ℕ). s ++ rest) (sym open_is))
              (whole_append (start ++ rest) later.lines first.whole later.whole);
          adds = later.adds;
        }

    told-run :
        (n : ℕ) (ends : List ℕ) → n + length ends ≤ 40000 → NoDrop (open_log plan rule ++ rest_log (opened_on plan rule) n ends)
        → OwnRun plan (open_log plan rule ++ rest_log (opened_on plan rule) n ends)
    told-run n ends l nodrop =
        let r =
        ends-step plan rule size ok (length ends) (opened_on plan rule) n ends (opened-on plan rule size ok) (opened-undropped plan rule size ok) l
        (after_open (rest_log (opened_on plan rule) n ends) nodrop) in
        open-run r.next (rest_log (opened_on plan rule) n ends) r.step

    refused-run : (answer : Answer) → answer.code ≤ most → answer.first ≤ most → answer.second ≤ most → OwnRun plan (open_log plan rule ++ refused_line answer)
    refused-run answer c f s =
        open-run (opened_on plan rule) (refused_line answer)
        (record {
          on = opened-on plan rule size ok;
          undropped = opened-undropped plan rule size ok;
          printed = refused-printed plan (known_in (opened_on plan rule)) answer c f s;
        })

  -- the column of a malformed `rule` line
  small-column : (ends : List ℕ) (column : ℕ) → choice_of ends ≡ Malformed column → length ends ≤ 32768 → column ≤ most
  small-column ends column q l = go (choice-says ends)
    where
      go : ChoiceSays ends (choice_of ends) → column ≤ most
      go (ChoiceSays.unsaid d e) = let z : ◌≡◌ {A = ℕ} 0 1 = cc in absurd (omega arith)
      go (ChoiceSays.chosen d h e) = let z : ◌≡◌ {A = ℕ} 0 1 = cc in absurd (omega arith)
      go (ChoiceSays.malformed col d s e) =
          let y : column ≡ col = ap (λ (x : Answer). x.second) (ap choice_answer (sym q) ∙ e) in
          omega (arith, s.to, length-take (index_of LF ends) ends)

  chosen-run :
      (ends : List ℕ) (choice : Choice) → choice_of ends ≡ choice → length ends ≤ 32768 → NoDrop (chosen_log choice plan ends)
      → OwnRun plan (chosen_log choice plan ends)
  unfolding chosen_log
  chosen-run ends Unsaid q l nodrop = told-run EarlyStart 1 ends (omega arith) nodrop
  chosen-run ends Chosen q l nodrop =
      told-run Clash 2 (after LF ends) (omega (arith, length-drop (suc (index_of LF ends)) ends)) nodrop
  chosen-run ends (Malformed column) q l nodrop =
      refused-run EarlyStart (refuse 3 1 column) (omega arith) (omega arith) (small-column ends column q l)

module _ (text ends : List ℕ) (z : (reading_of text).answer.code ≡ 0) where
  pub read_ok : is_accepted (reading_of text).plan ≡ true
  read_ok = read-accepted false text (ap (λ (x : Answer). x.code) (sym (read_answer false text)) ∙ z)

  pub read-size : SizedPlan (reading_of text).plan
  read-size = read-sized false text (ap (λ (x : Answer). x.code) (sym (read_answer false text)) ∙ z)

  log_is : length ends ≤ 32768 → log_of text ends ≡ chosen_log (choice_of ends) (reading_of text).plan ends
  unfolding log_of
  log_is l = rw (eq-eqb (reading_of text).answer.code 0 z, le-ltb 32768 (length ends) l)

  pub own-run : length ends ≤ 32768 → NoDrop (log_of text ends) → OwnRun (reading_of text).plan (log_of text ends)
  own-run l nodrop =
      subst (OwnRun (reading_of text).plan) (sym (log_is l))
      (chosen-run (reading_of text).plan read-size read_ok ends (choice_of ends) refl l (subst NoDrop (log_is l) nodrop))
