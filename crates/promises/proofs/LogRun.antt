-- The lines of a log: what its `early` lines show, and what its `refused` lines never carry.
use Prim.Native.Nat.{ℕ, zero, suc, ◌+◌, ◌<◌}
use native.Mathlib.Omega.{arith}
use mathlib.Core.Path.{◌≡◌, refl, sym, ap, subst, ◌∙◌}
use mathlib.Core.Logic.{◌≢◌, ◌⊎◌, ⊎_elim}
use mathlib.Core.Bool.{true, false, cond}
use mathlib.Core.List.{List, [], ◌∷◌, ◌++◌, append_assoc}
use lib.Dec.{eqb}
use lib.ListN.{length, get_or, length-append}
use borrow.Author.Tests.{ne_eqb}
use Rattle.laws.specs.Digits.{digits_of}
use Rattle.laws.specs.Lists.{all_of, same}
use Rattle.laws.specs.Split.{after}
use Rattle.laws.proofs.Split.{skip-suc}
use Rattle.laws.proofs.Cases.{by_bool, true-false}
use Rattle.laws.proofs.Digits.{digits-small, value-digits}
use Rattle.text.specs.Bytes.{bytes}
use Rattle.text.specs.Line.{LF, skip, fields, field}
use Rattle.text.specs.Number.{value_of}
use Rattle.theory.specs.Words.Events.{Event}
use Rattle.plan.specs.Answer.{refuse, is_granted}
use Rattle.plan.specs.Value.{is_accepted}
use Rattle.plan.specs.Read.{reading_of}
use Rattle.plan.specs.declared.Answer.{Answer}
use Rattle.plan.specs.declared.Plan.{Plan}
use Rattle.plan.proofs.ReadOk.{read_answer, read-accepted, read-sized}
use Rattle.book.specs.Early.{figure_of}
use Rattle.book.specs.Words.Event.{answer_to, book_told}
use Rattle.book.specs.Words.Sized.{SizedPlan}
use Rattle.book.specs.Sound.{is_sound}
use Rattle.book.specs.declared.Book.{Book}
use Rattle.log_read.specs.Entries.{entry_code, next_entry}
use Rattle.log_read.specs.Said.{Entry}
use Rattle.log_read.specs.Said.Entry.{End, Drop, Refused}
use Rattle.log_write.specs.Lines.{refused_line}
use Rattle.log_run.specs.Lines.{early_line}
use Rattle.log_run.specs.Log.{shown_after, open_log, told_of, lines_of, told_log, ends_log}
use Rattle.log_run.specs.declared.StepOutcome.{StepOutcome}
use Rattle.promises.specs.Runs.{book_after, opened_book, Ended, EarlyBy}
use Rattle.promises.specs.Says.{entry_answer, EntrySays}
use Rattle.promises.specs.Logs.{said_before, said_in, rule_in, lines_in, first_in, log_until, book_at}
use Rattle.promises.proofs.LogLines.{AllLines, lines-append, numbers-one, end_line, drop-line, starts-lines}
use Rattle.promises.proofs.LogMoments.{said-snoc, turn_more}
use Rattle.promises.proofs.RunView.{after-append}
use Rattle.promises.proofs.SoundRun.{OnPlan, on-run, early-kept}
use Rattle.promises.proofs.Codes.EntryLine.{entry-says}
use Rattle.promises.proofs.Codes.BookChecks.{report-ladder, drop-ladder}

-- an `early` line, and what is printed before it
pub record EarlyAt (text ends front line : List ℕ) : Type 0 where
  pub read : ℕ
  pub each_said : length (said_in read (lines_in ends)) ≡ read
  pub until : front ++ (line ++ (LF ∷ [])) ≡ log_until text ends read
  pub shows :
      fields line ≡ bytes "early" ∷ digits_of (book_at text ends read).clock ∷ digits_of (figure_of (book_at text ends read)).early ∷ []
  pub kept :
      (later : List Event) (i : ℕ) → i < (reading_of text).plan.tasks → (Ended (book_at text ends read) i → ⊥)
      → EarlyBy (reading_of text).plan (value_of (field line 2)) (book_after (book_at text ends read) later) i

-- what is shown of each line: an `early` line is one, and a `refused` one is not of 9
abbrev pub LineSays : List ℕ → List ℕ → List ℕ → List ℕ → Type 0
LineSays text ends front line =
    (field line 0 ≡ bytes "early" → EarlyAt text ends front line) × (field line 0 ≡ bytes "refused" → field line 1 ≢ bytes "9")

-- a line that is refused is so by 3 or 4
refused-by : (rest : List ℕ) (code column : ℕ) → next_entry rest ≡ Refused code column → (code ≡ 3) ⊎ (code ≡ 4)
refused-by rest code column q = go (entry-says 1 rest)
  where
    is : (c col : ℕ) → entry_answer 1 (next_entry rest) ≡ refuse c 1 col → code ≡ c
    is c col e = ap (λ (x : Answer). x.code) (ap (entry_answer 1) (sym q) ∙ e)

    go : EntrySays 1 rest (next_entry rest) → (code ≡ 3) ⊎ (code ≡ 4)
    go (EntrySays.an_end task tick a b l f e) = let z : ◌≡◌ {A = ℕ} 0 1 = cc in absurd (omega arith)
    go (EntrySays.a_drop task a l f e) = let z : ◌≡◌ {A = ℕ} 0 1 = cc in absurd (omega arith)
    go (EntrySays.refused_drop c col d k s e) = subst (λ (x : ℕ). (x ≡ 3) ⊎ (x ≡ 4)) (sym (is c col e)) k
    go (EntrySays.refused_end c col d k s e) = subst (λ (x : ℕ). (x ≡ 3) ⊎ (x ≡ 4)) (sym (is c col e)) k

module _ (text ends : List ℕ) where
  abbrev pub P : List ℕ → List ℕ → Type 0
  P front line = LineSays text ends front line

  pub other : (front line : List ℕ) → (field line 0 ≡ bytes "early" → ⊥) → (field line 0 ≡ bytes "refused" → ⊥) → P front line
  other front line e r = (λ q. absurd (e q), λ q. absurd (r q))

  not-early : bytes "refused" ≡ bytes "early" → ⊥
  unfolding same
  not-early q = true-false (ap (λ (s : List ℕ). same s (bytes "early")) q) refl

  not-refused : bytes "early" ≡ bytes "refused" → ⊥
  unfolding same
  not-refused q = true-false (ap (λ (s : List ℕ). same s (bytes "refused")) q) refl

  nine : digits_of 9 ≡ bytes "9"
  nine = digits-small 9 (omega arith)

  pub refused-lines : (front : List ℕ) (answer : Answer) → answer.code ≢ 9 → AllLines P front (refused_line answer)
  unfolding all_of
  refused-lines front answer n =
      numbers-one (bytes "refused") (answer.code ∷ answer.first ∷ answer.second ∷ []) (refl, refl) (λ line f q.
      let first : field line 0 ≡ bytes "refused" = ap (λ (l : List (List ℕ)). get_or l 0 []) f in
      let second : field line 1 ≡ digits_of answer.code = ap (λ (l : List (List ℕ)). get_or l 1 []) f in (
        λ y. absurd (not-early (sym first ∙ y)),
        λ y e. n (sym (value-digits answer.code) ∙ ap value_of (sym second ∙ e ∙ sym nine) ∙ value-digits 9),
      ))

  abbrev pub L : List ℕ
  L = lines_in ends

  -- where the plan is read
  module _ (z : (reading_of text).answer.code ≡ 0) where
    abbrev pub plan : Plan
    plan = (reading_of text).plan

    pub ok : is_accepted plan ≡ true
    ok = read-accepted false text (ap (λ (x : Answer). x.code) (sym (read_answer false text)) ∙ z)

    size : SizedPlan plan
    size = read-sized false text (ap (λ (x : Answer). x.code) (sym (read_answer false text)) ∙ z)

    on : (k : ℕ) → OnPlan plan (rule_in ends) (book_at text ends k)
    on k = on-run plan (rule_in ends) size ok (said_in k L)

    pub early-lines :
        (k : ℕ) → length (said_in k L) ≡ k → (front : List ℕ) (shown : StepOutcome) → shown.book ≡ book_at text ends k
        → shown.early ≡ (figure_of (book_at text ends k)).early → front ++ early_line shown ≡ log_until text ends k
        → AllLines P front (early_line shown)
    unfolding all_of
    early-lines k said front shown b m until =
        numbers-one (bytes "early") (shown.book.clock ∷ shown.early ∷ []) (refl, refl) (λ line f q.
        let first : field line 0 ≡ bytes "early" = ap (λ (l : List (List ℕ)). get_or l 0 []) f in
        let third : field line 2 ≡ digits_of (figure_of (book_at text ends k)).early =
        ap (λ (l : List (List ℕ)). get_or l 2 []) f ∙ ap digits_of m in
        let figure : value_of (field line 2) ≡ (figure_of (book_at text ends k)).early = ap value_of third ∙ value-digits _ in (
          λ y. record {
            read = k;
            each_said = said;
            until = ap (λ (l : List ℕ). front ++ l) q ∙ until;
            shows = f ∙ (λ i. bytes "early" ∷ digits_of (b i).clock ∷ digits_of (m i) ∷ []);
            kept = λ later i l n.
                subst (λ (x : ℕ). EarlyBy plan x (book_after (book_at text ends k) later) i) (sym figure)
                (early-kept plan (rule_in ends) size ok (book_at text ends k) (on k) later i l n);
          },
          λ y. absurd (not-refused (sym first ∙ y)),
        ))

    -- what line k + 1 of those that tell prints, after k that each said something
    module _ (k : ℕ) (said : length (said_in k L) ≡ k) (some : eqb (length (skip k L)) 0 ≡ false) where
      abbrev book : Book
      book = book_at text ends k

      abbrev n : ℕ
      n = first_in ends + k

      no_nine : (code : ℕ) → (code ≡ 9 → Unit {0} × (is_sound book ≡ false)) → code ≢ 9
      no_nine code f e = true-false (on k).good.sound (f e).1

      turned :
          log_until text ends (suc k) ≡ log_until text ends k ++ told_log book (next_entry (skip k L)) (told_of n book (next_entry (skip k L)))
      turned =
          ap (λ (l : List ℕ). open_log plan (rule_in ends) ++ l) (turn_more k (opened_book plan (rule_in ends)) (first_in ends) L said some)
          ∙ sym (append_assoc (open_log plan (rule_in ends)) (ends_log k (opened_book plan (rule_in ends)) (first_in ends) L)
          (told_log book (next_entry (skip k L)) (told_of n book (next_entry (skip k L)))))

      -- a report or drop
      module _ (event : Event) (is : (later : List Event) → said_before (next_entry (skip k L)) later ≡ event ∷ later) where
        snoc : said_in (suc k) L ≡ said_in k L ++ (event ∷ [])
        snoc = said-snoc k L event said some is

        said_more : length (said_in (suc k) L) ≡ suc k
        said_more = ap length snoc ∙ simp length-append (omega arith)

        step : book_told book event ≡ book_at text ends (suc k)
        unfolding book_after
        step =
            sym (after-append (opened_book plan (rule_in ends)) (said_in k L) (event ∷ []))
            ∙ ap (book_after (opened_book plan (rule_in ends))) (sym snoc)

        -- one that is taken: its lines, and M of the book after it
        taken :
            (entry : Entry)
            → log_until text ends (suc k) ≡ log_until text ends k ++ told_log book entry (shown_after (answer_to book event) (book_told book event))
            → AllLines P (log_until text ends k) (lines_of book entry (book_told book event)) → (answer_to book event).code ≢ 9
            → AllLines P (log_until text ends k) (told_log book entry (shown_after (answer_to book event) (book_told book event)))
        unfolding told_log
        taken entry until lines other-code =
            by_bool (is_granted (answer_to book event))
            (λ g.
            let shown : StepOutcome = record { answer = answer_to book event; book = book_told book event; early = (figure_of (book_told book event)).early } in
            let until' : log_until text ends (suc k) ≡ log_until text ends k ++ (lines_of book entry (book_told book event) ++ early_line shown) = rw g at until in
            rw g
            (lines-append _ lines
            (early-lines (suc k) said_more (log_until text ends k ++ lines_of book entry (book_told book event)) shown
            step (ap (λ (b : Book). (figure_of b).early) step)
            (append_assoc (log_until text ends k) (lines_of book entry (book_told book event)) (early_line shown) ∙ sym until'))))
            (λ g. rw g (refused-lines (log_until text ends k) (answer_to book event) other-code))

        -- and the lines after it
        goes_on :
            (fuel : ℕ) (now : List ℕ) → log_until text ends (suc k) ≡ log_until text ends k ++ now
            → AllLines P (log_until text ends (suc k)) (ends_log fuel (book_at text ends (suc k)) (first_in ends + suc k) (skip (suc k) L))
            → AllLines P (log_until text ends k ++ now) (ends_log fuel (book_told book event) (n + 1) (after LF (skip k L)))
        goes_on fuel now until rest =
            let place : first_in ends + suc k ≡ n + 1 = omega arith in
            subst (λ (f : List ℕ). AllLines P f (ends_log fuel (book_told book event) (n + 1) (after LF (skip k L)))) until
            (subst (λ (b : Book). AllLines P (log_until text ends (suc k)) (ends_log fuel b (n + 1) (after LF (skip k L)))) (sym step)
            (subst (λ (m : ℕ). AllLines P (log_until text ends (suc k)) (ends_log fuel (book_at text ends (suc k)) m (after LF (skip k L)))) place
            (subst (λ (s : List ℕ). AllLines P (log_until text ends (suc k)) (ends_log fuel (book_at text ends (suc k)) (first_in ends + suc k) s)) (skip-suc LF k L) rest)))

      entry-lines :
          (entry : Entry) → next_entry (skip k L) ≡ entry
          → log_until text ends (suc k) ≡ log_until text ends k ++ told_log book entry (told_of n book entry)
          → AllLines P (log_until text ends k) (told_log book entry (told_of n book entry))
      unfolding told_of told_log
      entry-lines (End task tick) q until =
          taken (Event.ends task tick) (λ later. ap (λ (e : Entry). said_before e later) q) (End task tick) until
          (lines-append _ (end_line other _ _) (starts-lines other _ book (book_told book (Event.ends task tick)) book.tasks))
          (no_nine _ (report-ladder book task tick).0.0)
      entry-lines (Drop task) q until =
          taken (Event.drops task) (λ later. ap (λ (e : Entry). said_before e later) q) (Drop task) until
          (drop-line other _ _) (no_nine _ (drop-ladder book task).0.0)
      entry-lines (Refused code column) q until =
          let c = refused-by (skip k L) code column q in
          let d : code ≢ 0 = λ y. ⊎_elim (λ e. omega arith) (λ e. omega arith) c in
          rw (ne_eqb code 0 d) (refused-lines (log_until text ends k) (refuse code n column) (λ y. ⊎_elim (λ e. omega arith) (λ e. omega arith) c))

      later-lines :
          (fuel : ℕ) (entry : Entry) → next_entry (skip k L) ≡ entry
          → log_until text ends (suc k) ≡ log_until text ends k ++ told_log book entry (told_of n book entry)
          → (length (said_in (suc k) L) ≡ suc k → AllLines P (log_until text ends (suc k)) (ends_log fuel (book_at text ends (suc k)) (first_in ends + suc k) (skip (suc k) L)))
          → AllLines P (log_until text ends k ++ told_log book entry (told_of n book entry))
          (cond (eqb (entry_code entry) 0) (ends_log fuel (told_of n book entry).book (n + 1) (after LF (skip k L))) [])
      unfolding told_of
      later-lines fuel (End task tick) q until more =
          goes_on (Event.ends task tick) (λ later. ap (λ (e : Entry). said_before e later) q) fuel _ until
          (more (said_more (Event.ends task tick) (λ later. ap (λ (e : Entry). said_before e later) q)))
      later-lines fuel (Drop task) q until more =
          goes_on (Event.drops task) (λ later. ap (λ (e : Entry). said_before e later) q) fuel _ until
          (more (said_more (Event.drops task) (λ later. ap (λ (e : Entry). said_before e later) q)))
      later-lines fuel (Refused code column) q until more =
          let c = refused-by (skip k L) code column q in
          let d : code ≢ 0 = λ y. ⊎_elim (λ e. omega arith) (λ e. omega arith) c in
          rw (ne_eqb code 0 d) AllLines.none

    pub ends-lines :
        (fuel k : ℕ) → length (said_in k L) ≡ k → AllLines P (log_until text ends k) (ends_log fuel (book_at text ends k) (first_in ends + k) (skip k L))
    unfolding ends_log
    ends-lines zero k said = AllLines.none
    ends-lines (suc fuel) k said =
        by_bool (eqb (length (skip k L)) 0) (λ e. rw e AllLines.none)
        (λ e.
        rw e
        (lines-append _ (entry-lines k said e (next_entry (skip k L)) refl (turned k said e))
        (later-lines k said e fuel (next_entry (skip k L)) refl (turned k said e) (λ l. ends-lines fuel (suc k) l))))
