-- What the whole of lengths.txt asks, and what is printed.
use Prim.Native.Nat.{ℕ, zero, suc, ◌+◌, ◌≤◌, ◌<◌, min}
use mathlib.Core.Path.{◌≡◌, refl, ap, ◌∙◌}
use mathlib.Core.List.{List, [], ◌∷◌}
use native.Mathlib.Omega.{arith}
use lib.ListN.{length}
use borrow.Author.Tests.{eq-eqb, ne_eqb, lt-ltb, le-ltb}
use Rattle.laws.proofs.Cases.{by-eq, by_le}
use Rattle.laws.specs.Split.{after}
use Rattle.text.specs.Line.{LF}
use Rattle.plan.specs.Read.{reading_of}
use Rattle.book.specs.declared.Rule.TheVariants.{EarlyStart, Clash}
use Rattle.log_read.specs.Rules.{choice_of}
use Rattle.log_read.specs.Said.{Choice}
use Rattle.log_read.specs.Said.Choice.{Unsaid, Chosen, Malformed}
use Rattle.engine_read.specs.Lines.{next_said, said_answer}
use Rattle.engine_read.specs.Whole.{told_in, chosen_asked, asked_of}
use Rattle.engine_read.specs.Said.{LengthLine}
use Rattle.engine_read.proofs.WalkLaws.{after_less, in-none, in-stop, in-turn}
use Rattle.engine_write.specs.Table.{times_text, asked_text, table_of}
use Rattle.promises_engine.specs.LengthsSays.{LinesSay, Begins, AskedSays, asked_in, table_for, TableSays}

-- ---- line by line

lines-go : (m tasks n : ℕ) (earlier : List LengthLine) (text : List ℕ) → length text < m → LinesSay tasks n earlier text (told_in tasks n earlier text)
lines-go zero tasks n earlier text h = absurd (omega arith)
lines-go (suc m) tasks n earlier text h =
    by-eq (length text) 0
    (λ z. rw (in-none tasks n earlier text z) (LinesSay.no_more z))
    (λ nz.
    let some : 0 < length text = omega arith in
    let less = after_less text some in
    by-eq (said_answer n (next_said tasks earlier text)).code 0
    (λ z.
    rw (in-turn tasks n earlier text some z)
    (LinesSay.goes_on some z (lines-go m tasks (n + 1) (next_said tasks earlier text ∷ earlier) (after LF text) (omega arith))))
    (λ f. rw (in-stop tasks n earlier text some f) (LinesSay.refused some f)))

pub lines-say : (tasks n : ℕ) (earlier : List LengthLine) (text : List ℕ) → LinesSay tasks n earlier text (told_in tasks n earlier text)
lines-say tasks n earlier text = lines-go (suc (length text)) tasks n earlier text (omega arith)

-- ---- the whole text

module _ (tasks : ℕ) (few : tasks ≤ 64) (begin finish text : List ℕ) where
  asked-as : length text ≤ 32768 → (choice : Choice) → choice_of text ≡ choice → asked_of tasks begin finish text ≡ chosen_asked choice tasks begin finish text
  unfolding asked_of
  asked-as h choice c =
      let e : min tasks 64 ≡ tasks = omega arith in
      rw (le-ltb 32768 (length text) h) (ap (λ (x : Choice). chosen_asked x (min tasks 64) begin finish text) c ∙ ap (λ (k : ℕ). chosen_asked choice k begin finish text) e)

  by-choice : length text ≤ 32768 → (choice : Choice) → choice_of text ≡ choice → AskedSays tasks begin finish text (asked_of tasks begin finish text)
  unfolding chosen_asked
  by-choice h Unsaid c = AskedSays.lines h EarlyStart 1 text _ (Begins.by_early_start c) (lines-say tasks 1 [] text) (asked-as h Unsaid c)
  by-choice h Chosen c = AskedSays.lines h Clash 2 (after LF text) _ (Begins.by_clash c) (lines-say tasks 2 [] (after LF text)) (asked-as h Chosen c)
  by-choice h (Malformed column) c = AskedSays.rule_line h column c (asked-as h (Malformed column) c)

  asked-long : 32768 < length text → AskedSays tasks begin finish text (asked_of tasks begin finish text)
  unfolding asked_of
  asked-long h = AskedSays.too_long h (rw (lt-ltb 32768 (length text) h))

  pub asked-says : AskedSays tasks begin finish text (asked_of tasks begin finish text)
  asked-says = by_le (length text) 32768 (λ h. by-choice h (choice_of text) refl) asked-long

-- ---- what is printed

pub table-text : (plan lengths : List ℕ) → TableSays plan lengths (table_of plan lengths)
unfolding table_of asked_text times_text
table-text plan lengths =
    by-eq (reading_of plan).answer.code 0
    (λ read.
    by-eq (asked_in plan lengths).answer.code 0
    (λ asked.
    by-eq (table_for plan lengths).answer.code 0
    (λ worked. TableSays.printed read asked worked (rw (eq-eqb (reading_of plan).answer.code 0 read, eq-eqb (asked_in plan lengths).answer.code 0 asked, eq-eqb (table_for plan lengths).answer.code 0 worked)))
    (λ f. TableSays.engine_refused read asked f (rw (eq-eqb (reading_of plan).answer.code 0 read, eq-eqb (asked_in plan lengths).answer.code 0 asked, ne_eqb (table_for plan lengths).answer.code 0 f))))
    (λ f. TableSays.lengths_refused read f (rw (eq-eqb (reading_of plan).answer.code 0 read, ne_eqb (asked_in plan lengths).answer.code 0 f))))
    (λ f. TableSays.plan_refused f (rw (ne_eqb (reading_of plan).answer.code 0 f)))
