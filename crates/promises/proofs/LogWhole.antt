-- The whole log: its lines, how it begins, and what malformed lines are answered.
use Prim.Native.Nat.{ℕ, suc, ◌+◌}
use native.Mathlib.Omega.{arith}
use mathlib.Core.Path.{◌≡◌, refl, sym, ap, subst, ◌∙◌}
use mathlib.Core.Logic.{◌≢◌, ⊎_elim}
use mathlib.Core.Bool.{true, false}
use mathlib.Core.List.{List, [], ◌++◌, append_assoc, append-nil}
use lib.Dec.{ltb}
use lib.ListN.{length}
use borrow.Author.Tests.{eq-eqb, ne_eqb, lt-ltb, le-ltb}
use Rattle.laws.specs.Lists.{same}
use Rattle.laws.specs.Split.{after, skip_on, split_on}
use Rattle.laws.proofs.Cases.{by_bool, by-eq, by_le, true-false}
use Rattle.text.specs.Bytes.{bytes}
use Rattle.text.specs.Line.{LF, skip, line_at, field}
use Rattle.plan.specs.Answer.{refuse, granted}
use Rattle.plan.specs.Read.{reading_of}
use Rattle.plan.specs.declared.Plan.{Plan}
use Rattle.book.specs.Open.{rule_number, blank_book, opened_on}
use Rattle.book.specs.Early.{figure_of}
use Rattle.book.specs.declared.Book.{Book}
use Rattle.book.specs.declared.Rule.TheVariants.{EarlyStart, Clash}
use Rattle.log_read.specs.Entries.{entry_code}
use Rattle.log_read.specs.Rules.{choice_of}
use Rattle.log_read.specs.Said.{Choice}
use Rattle.log_read.specs.Said.Choice.{Unsaid, Chosen, Malformed}
use Rattle.log_read.specs.Said.{Entry}
use Rattle.log_read.specs.Said.Entry.{End, Drop, Refused}
use Rattle.log_write.specs.Lines.{refused_line}
use Rattle.log_run.specs.Lines.{run_line, early_line, start_lines}
use Rattle.laws.proofs.Lists.{same_refl}
use Rattle.log_run.specs.Log.{shown_after, open_log, told_of, ends_log, rest_log, chosen_log, log_of}
use Rattle.promises.specs.Runs.{opened_book, book_after}
use Rattle.promises.specs.Says.{entry_answer, choice_answer}
use Rattle.promises.specs.Logs.{said_in, rule_by, first_by, lines_by, rule_in, lines_in, first_in, LogSays, EarlyLine}
use Rattle.promises.proofs.LogLines.{AllLines, At, lines-append, line_of, starts-lines, run-lines}
use Rattle.promises.proofs.RunView.{opened-is}
use Rattle.promises.proofs.LogRun.{P, other, refused-lines, ok, early-lines, ends-lines}
use Rattle.promises.proofs.Codes.Reading.{reading-code}

module _ (text ends : List ℕ) where
  abbrev Lines : List ℕ → List ℕ → Type 0
  Lines front s = AllLines (P text ends) front s

  -- where the plan is read
  module _ (z : (reading_of text).answer.code ≡ 0) where
    abbrev plan : Plan
    plan = (reading_of text).plan

    opened-now : opened_book plan (rule_in ends) ≡ opened_on plan (rule_in ends)
    opened-now = opened-is plan (rule_in ends) (ok text ends z)

    open-lines : Lines [] (open_log plan (rule_in ends))
    unfolding open_log book_after said_in ends_log
    open-lines =
        let book = opened_on plan (rule_in ends) in
        let starts = start_lines (blank_book (rule_number (rule_in ends)) plan) book plan.tasks in
        let early = early_line (shown_after granted book) in
        lines-append _ (run-lines (other text ends) [] _ _ _)
        (lines-append _ (starts-lines (other text ends) (run_line book) (blank_book (rule_number (rule_in ends)) plan) book plan.tasks)
        (early-lines text ends z 0 refl (run_line book ++ starts) (shown_after granted book) (sym opened-now) (ap (λ (b : Book). (figure_of b).early) (sym opened-now))
        (append_assoc (run_line book) starts early ∙ sym (append-nil (run_line book ++ (starts ++ early))))))

    -- what ends.txt adds
    told-lines : Lines (open_log plan (rule_in ends)) (rest_log (opened_on plan (rule_in ends)) (first_in ends) (lines_in ends))
    unfolding book_after said_in ends_log skip_on
    told-lines =
        let first : first_in ends + 0 ≡ first_in ends = omega arith in
        subst (λ (b : Book). Lines (open_log plan (rule_in ends)) (rest_log b (first_in ends) (lines_in ends))) opened-now
        (subst (λ (n : ℕ). Lines (open_log plan (rule_in ends)) (rest_log (opened_book plan (rule_in ends)) n (lines_in ends))) first
        (subst (λ (f : List ℕ). Lines f (rest_log (opened_book plan (rule_in ends)) (first_in ends + 0) (lines_in ends))) (append-nil (open_log plan (rule_in ends)))
        (ends-lines text ends z (length (lines_in ends)) 0 refl)))

    chosen-lines : (choice : Choice) → choice_of ends ≡ choice → Lines [] (chosen_log choice plan ends)
    unfolding chosen_log
    chosen-lines Unsaid q =
        subst (λ (c : Choice). Lines [] (open_log plan (rule_by c) ++ rest_log (opened_on plan (rule_by c)) (first_by c) (lines_by c ends))) q (lines-append _ open-lines told-lines)
    chosen-lines Chosen q =
        subst (λ (c : Choice). Lines [] (open_log plan (rule_by c) ++ rest_log (opened_on plan (rule_by c)) (first_by c) (lines_by c ends))) q (lines-append _ open-lines told-lines)
    chosen-lines (Malformed column) q =
        subst (λ (c : Choice). Lines [] (open_log plan (rule_by c) ++ refused_line (refuse 3 1 column))) q
        (lines-append _ open-lines (refused-lines text ends _ (refuse 3 1 column) (λ e. omega arith)))

  log-lines : Lines [] (log_of text ends)
  unfolding log_of
  log-lines =
      by-eq (reading_of text).answer.code 0
      (λ z.
      rw (eq-eqb (reading_of text).answer.code 0 z)
      (by_bool (ltb 32768 (length ends)) (λ l. rw l (refused-lines text ends [] (refuse 1 0 0) (λ e. omega arith))) (λ l. rw l (chosen-lines z (choice_of ends) refl))))
      (λ n.
      rw (ne_eqb (reading_of text).answer.code 0 n)
      (refused-lines text ends [] (reading_of text).answer (λ e.
      ⊎_elim (λ l. omega arith) (⊎_elim (λ l. omega arith) (⊎_elim (λ l. omega arith) (λ l. omega arith))) (reading-code false text))))

  -- of the line that stands at a place of the log
  abbrev log : List ℕ
  log = log_of text ends

  no_word : (n : ℕ) → line_at log n ≡ [] → (word : List ℕ) → same [] word ≡ false → field (line_at log n) 0 ≡ word → ⊥
  unfolding split_on
  no_word n e word d q =
      let first : field (line_at log n) 0 ≡ [] = ap (λ (l : List ℕ). field l 0) e in
      let w : [] ≡ word = sym first ∙ q in
      let t : same [] word ≡ true = rw (← w) (same_refl []) in
      true-false t d

  early-at : (n : ℕ) → field (line_at log n) 0 ≡ bytes "early" → At (P text ends) [] log n → EarlyLine text ends n
  early-at n q a =
      let e = a.holds.0 q in
      let one : suc n ≡ n + 1 = omega arith in
      record {
        read = e.read;
        each_said = e.each_said;
        until = a.whole ∙ (λ i. e.until i ++ skip (one i) log);
        shows = e.shows;
        kept = e.kept;
      }

  pub early-line : (n : ℕ) → field (line_at log n) 0 ≡ bytes "early" → EarlyLine text ends n
  unfolding same
  early-line n q =
      ⊎_elim (λ e. absurd (no_word n e (bytes "early") refl q)) (early-at n q) (line_of [] log log-lines n)

  pub never-nine : (n : ℕ) → field (line_at log n) 0 ≡ bytes "refused" → field (line_at log n) 1 ≢ bytes "9"
  unfolding same
  never-nine n q =
      ⊎_elim (λ e. absurd (no_word n e (bytes "refused") refl q)) (λ a. a.holds.1 q) (line_of [] log log-lines n)

  begins : (choice : Choice) → choice_of ends ≡ choice → (rest : List ℕ) × (chosen_log choice (reading_of text).plan ends ≡ open_log (reading_of text).plan (rule_in ends) ++ rest)
  unfolding chosen_log
  begins Unsaid q = (_, λ i. open_log (reading_of text).plan (rule_by (sym q i)) ++ rest_log (opened_on (reading_of text).plan EarlyStart) 1 ends)
  begins Chosen q = (_, λ i. open_log (reading_of text).plan (rule_by (sym q i)) ++ rest_log (opened_on (reading_of text).plan Clash) 2 (after LF ends))
  begins (Malformed column) q = (_, λ i. open_log (reading_of text).plan (rule_by (sym q i)) ++ refused_line (refuse 3 1 column))

  pub log-says : LogSays text ends
  unfolding log_of
  log-says =
      by-eq (reading_of text).answer.code 0
      (λ z.
      by_le (length ends) 32768
      (λ l.
      let b = begins (choice_of ends) refl in
      LogSays.runs z l b.0 (rw (eq-eqb (reading_of text).answer.code 0 z, le-ltb 32768 (length ends) l) b.1))
      (λ l. LogSays.too_long z l (rw (eq-eqb (reading_of text).answer.code 0 z, lt-ltb 32768 (length ends) l))))
      (λ n. LogSays.refused_plan n (rw (ne_eqb (reading_of text).answer.code 0 n)))

-- a malformed line is answered by its number and values
pub entry-answered : (n : ℕ) (book : Book) (entry : Entry) → entry_code entry ≢ 0 → (told_of n book entry).answer ≡ entry_answer n entry
unfolding told_of
entry-answered n book (End task tick) d = absurd (d refl)
entry-answered n book (Drop task) d = absurd (d refl)
entry-answered n book (Refused code column) d = refl

pub choice-answered :
    (plan : Plan) (ends : List ℕ) (choice : Choice) → (choice_answer choice).code ≢ 0
    → chosen_log choice plan ends ≡ open_log plan EarlyStart ++ refused_line (choice_answer choice)
unfolding chosen_log
choice-answered plan ends Unsaid d = absurd (d refl)
choice-answered plan ends Chosen d = absurd (d refl)
choice-answered plan ends (Malformed column) d = refl
