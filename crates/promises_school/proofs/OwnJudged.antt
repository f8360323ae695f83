-- A log that `runlog` printed is judged: accepted, with the figures of its own `end` lines.
use Prim.Native.Nat.{ℕ, suc, ◌+◌, ◌-◌, ◌≤◌, ◌<◌}
use native.Mathlib.Omega.{arith}
use mathlib.Core.Path.{◌≡◌, refl, sym, ap, subst, ◌∙◌}
use mathlib.Core.Logic.{⊎_elim}
use mathlib.Core.Bool.{Bool, true, false}
use mathlib.Core.List.Memᴰ
use mathlib.Core.List.{List, [], ◌∷◌, ◌++◌, map, Memᴰ}
use lib.ListN.{length}
use borrow.Author.Tests.{eq-eqb, ne_eqb, le-ltb}
use Rattle.laws.specs.Digits.{digits_of}
use Rattle.laws.specs.Lists.{all_of, same}
use Rattle.laws.specs.Split.{split_on}
use Rattle.laws.proofs.Cases.{by-eq, and-of, true-false}
use Rattle.text.specs.Bytes.{bytes}
use Rattle.text.specs.Line.{LF, field}
use Rattle.plan.specs.Answer.{refuse, granted}
use Rattle.plan.specs.Value.{at, is_accepted}
use Rattle.plan.specs.Read.{reading_of}
use Rattle.plan.specs.declared.Answer.{Answer}
use Rattle.plan.specs.declared.Plan.{Plan}
use Rattle.book_view.proofs.Accepted.{plan-facts}
use Rattle.log_write.specs.Lines.{refused_line}
use Rattle.log_run.specs.Log.{log_of}
use Rattle.school.specs.Lines.{says_none, is_run, later_said, line_said, said_from, said_in}
use Rattle.school.specs.Tasks.{is_start, is_end, how_many, first_of}
use Rattle.school.specs.Tests.{found_in, lines_judged, judged_of}
use Rattle.school.specs.Text.{judged_text, judged_log}
use Rattle.school.specs.declared.JudgedLog.{JudgedLog}
use Rattle.school.specs.Said.{LogLine}
use Rattle.promises.specs.Runs.{SizedPlan, Ended, start_of, end_of}
use Rattle.promises.specs.Logs.{LogSays}
use Rattle.promises.proofs.LogWhole.{log-says}
use Rattle.promises_school.specs.Own.{EndLine, OwnLog, OwnFigures}
use Rattle.promises_school.proofs.WholeLines.{whole_split, numbers-line}
use Rattle.promises_school.proofs.OwnMoments.{Moment}
use Rattle.promises_school.proofs.Adds.{says, Carries}
use Rattle.promises_school.proofs.OwnPrinted.{other_word, start_known, end_known}
use Rattle.promises_school.proofs.OwnRun.{OwnRun, read_ok, read-size, own-run}
use Rattle.promises_school.proofs.Passes.{Says, no-faults, figures}

-- what the lines of a text of whole lines say
said-later : (boards tasks : ℕ) (lines : List (List ℕ)) → said_from boards tasks false (lines ++ ([] ∷ [])) ≡ map (later_said boards tasks) lines
unfolding said_from line_said same
said-later boards tasks [] = refl
said-later boards tasks (line ∷ []) = refl
said-later boards tasks (line ∷ next ∷ lines) =
    ap (λ (l : List LogLine). later_said boards tasks line ∷ l) (said-later boards tasks (next ∷ lines))

said-first :
    (boards tasks : ℕ) (first : List ℕ) (lines : List (List ℕ)) → is_run boards tasks first ≡ true
    → said_from boards tasks true ((first ∷ lines) ++ ([] ∷ [])) ≡ says_none true ∷ map (later_said boards tasks) lines
unfolding said_from line_said same
said-first boards tasks first [] e = rw e
said-first boards tasks first (next ∷ lines) e = rw e (ap (λ (l : List LogLine). says_none true ∷ l) (said-later boards tasks (next ∷ lines)))

-- what follows the last LF is no `end` line
nil-word : field [] 0 ≡ bytes "end" → ⊥
unfolding same split_on
nil-word q = true-false (ap (λ (s : List ℕ). same s (bytes "end")) q) refl

-- nothing that line 1 says counts
module _ (p : LogLine → Bool) (said : LogLine) (lines : List LogLine) (no : p said ≡ false) where
  many-after : how_many p (said ∷ lines) ≡ how_many p lines
  unfolding how_many
  many-after = rw no (omega arith)

  first-after : first_of p (said ∷ lines) ≡ first_of p lines
  unfolding first_of
  first-after = rw no

module _ (plan : Plan) (size : SizedPlan plan) (ok : is_accepted plan ≡ true) (log : List ℕ) (run : OwnRun plan log) where
  abbrev lines : List LogLine
  lines = says_none true ∷ says plan run.lines

  said-is : said_in plan.boards plan.tasks log ≡ lines
  said-is =
      ap (said_from plan.boards plan.tasks true) (whole_split run.whole)
      ∙ said-first plan.boards plan.tasks run.first.line run.lines run.first.runs

  -- an `end` line is one of the later lines
  later : (line : List ℕ) → Memᴰ line (split_on LF log) → field line 0 ≡ bytes "end" → Memᴰ line run.lines
  unfolding same
  later line m w =
      ⊎_elim
      (λ h.
      ⊎_elim
      (λ e. absurd (not-run (sym run.first.word ∙ ap (λ (x : List ℕ). field x 0) (sym e) ∙ w)))
      (λ t. t) (Memᴰ.cases_cons h))
      (λ h. absurd (nil-word (ap (λ (x : List ℕ). field x 0) (sym (Memᴰ.eq_of_singleton h)) ∙ w)))
      (Memᴰ.append_cases (run.first.line ∷ run.lines) (subst (Memᴰ line) (whole_split run.whole) m))
    where
      not-run : bytes "run" ≡ bytes "end" → ⊥
      not-run q = true-false (ap (λ (s : List ℕ). same s (bytes "end")) q) refl

  carried : (i : ℕ) → i < plan.tasks → (own : EndLine log i) → Carries (at plan.finish i) (end_known run.book i) (field own.line 4)
  carried i l own = run.adds.own own.line (later own.line own.stands own.word) i l own.word own.task

  -- an end that is known is the book's
  known-end : (i tick : ℕ) → end_known run.book i ≡ suc tick → Ended run.book i × (end_of run.book i ≡ tick)
  known-end i tick k =
      by-eq (at run.book.mark i) 2
      (λ e.
      let q : suc (end_of run.book i) ≡ suc tick = rw (eq-eqb (at run.book.mark i) 2 e) at k in
      (e, omega arith))
      (λ n. let q : 0 ≡ suc tick = rw (ne_eqb (at run.book.mark i) 2 n) at k in absurd (omega arith))

  module _ (ended : (i : ℕ) → i < plan.tasks → EndLine log i) where
    done : (i : ℕ) → i < plan.tasks → Ended run.book i
    done i l = let c = carried i l (ended i l) in (known-end i c.tick c.seen).0

    start-known : (i : ℕ) → i < plan.tasks → start_known run.book i ≡ suc (start_of run.book i)
    start-known i l = let d = done i l in rw (ne_eqb (at run.book.mark i) 0 (λ z. omega arith))

    end_known_lem : (i : ℕ) → i < plan.tasks → end_known run.book i ≡ suc (end_of run.book i)
    end_known_lem i l = rw (eq-eqb (at run.book.mark i) 2 (done i l))

    said-start : (i : ℕ) → i < plan.tasks → Moment (is_start i) (at plan.board i) (says plan run.lines) 0 (start_known run.book i)
    said-start i l = run.adds.starts i l

    said-end : (i : ℕ) → i < plan.tasks → Moment (is_end i) (at plan.board i) (says plan run.lines) 0 (end_known run.book i)
    said-end i l = run.adds.ends i l

    task-says : (i : ℕ) → i < plan.tasks → Says plan lines (start_of run.book i) (end_of run.book i) i
    task-says i l = go (said-start i l) (said-end i l)
      where
        go :
            Moment (is_start i) (at plan.board i) (says plan run.lines) 0 (start_known run.book i)
            → Moment (is_end i) (at plan.board i) (says plan run.lines) 0 (end_known run.book i)
            → Says plan lines (start_of run.book i) (end_of run.book i) i
        go (Moment.same e n) y = let k = start-known i l in absurd (omega arith)
        go (Moment.said s o k n b t) (Moment.same e m) = let q = end_known_lem i l in absurd (omega arith)
        go (Moment.said s o k n b t) (Moment.said s' o' k' n' b' t') =
            let is = start-known i l in
            let is' = end_known_lem i l in
            let no : is_start i (says_none true) ≡ false = ne_eqb 0 (i + 1) (omega arith) in
            let no' : is_end i (says_none true) ≡ false = ne_eqb 0 (i + 1) (omega arith) in
            let f = first-after (is_start i) (says_none true) (says plan run.lines) no in
            let f' = first-after (is_end i) (says_none true) (says plan run.lines) no' in
            let x : s ≡ start_of run.book i = omega arith in
            let x' : s' ≡ end_of run.book i = omega arith in
            record {
              one-start = many-after (is_start i) (says_none true) (says plan run.lines) no ∙ n;
              one_end = many-after (is_end i) (says_none true) (says plan run.lines) no' ∙ n';
              start-board = ap (λ (z : LogLine). z.board) f ∙ b;
              end-board = ap (λ (z : LogLine). z.board) f' ∙ b';
              starts = ap (λ (z : LogLine). z.tick) f ∙ t ∙ x;
              ends = ap (λ (z : LogLine). z.tick) f' ∙ t' ∙ x';
            }

    formed : all_of (λ (said : LogLine). said.formed) lines ≡ true
    unfolding all_of
    formed = and-of refl run.adds.formed

    pub judged-is : length log ≤ 32768 → judged_of plan log ≡ found_in plan.tasks granted lines
    unfolding judged_of lines_judged
    judged-is short =
        let fine : lines_judged plan lines ≡ found_in plan.tasks granted lines =
        rw (formed, no-faults plan run.rule size ok run.book run.on run.undropped done lines task-says) in
        rw (ok, le-ltb 32768 (length log) short, said-is) fine

    pub own-figures : length log ≤ 32768 → OwnFigures plan.tasks log (judged_text plan (judged_of plan log))
    own-figures short = record {
      figure = λ i. digits_of (at plan.finish i - end_of run.book i);
      carried = λ i l own.
          let c = carried i l own in
          c.is ∙ ap (λ (t : ℕ). digits_of (at plan.finish i - t)) (sym (known-end i c.tick c.seen).1);
      text = ap (judged_text plan) (judged-is short) ∙ figures plan run.rule size ok run.book run.on run.undropped done lines task-says;
    }

-- of bytes
module _ (text ends : List ℕ) (own : OwnLog text ends) where
  abbrev plan : Plan
  plan = (reading_of text).plan

  zero-code : (reading_of text).answer.code ≡ 0
  zero-code = ap (λ (x : Answer). x.code) own.read

  -- a refusal alone has no `end` line
  alone : (answer : Answer) (i : ℕ) → log_of text ends ≡ refused_line answer → EndLine (log_of text ends) i → ⊥
  unfolding all_of same
  alone answer i e own_line =
      let one = numbers-line (bytes "refused") (answer.code ∷ answer.first ∷ answer.second ∷ []) (refl, refl) in
      let m = subst (Memᴰ own_line.line) (ap (split_on LF) e ∙ whole_split one.whole) own_line.stands in
      ⊎_elim
      (λ q. other_word one.line (bytes "refused") (bytes "end") _ one.has refl (ap (λ (x : List ℕ). field x 0) (sym q) ∙ own_line.word))
      (λ h. nil-word (ap (λ (x : List ℕ). field x 0) (sym (Memᴰ.eq_of_singleton h)) ∙ own_line.word))
      (Memᴰ.cases_cons m)

  run : OwnRun plan (log_of text ends)
  run = go (log-says text ends)
    where
      go : LogSays text ends → OwnRun plan (log_of text ends)
      go (LogSays.refused_plan n e) = absurd (n zero-code)
      go (LogSays.too_long z l e) =
          absurd (alone (refuse 1 0 0) 0 e (own.ended 0 (plan-facts plan (read_ok text ends zero-code)).tasks-from))
      go (LogSays.runs z l rest e) = own-run text ends zero-code l own.undropped

  pub own-accepted : (judged_of plan (log_of text ends)).answer ≡ granted
  own-accepted =
      ap (λ (j : JudgedLog). j.answer)
      (judged-is plan (read-size text ends zero-code) (read_ok text ends zero-code) (log_of text ends) run own.ended own.short)

  pub own-printed : OwnFigures plan.tasks (log_of text ends) (judged_text plan (judged_of plan (log_of text ends)))
  own-printed =
      own-figures plan (read-size text ends zero-code) (read_ok text ends zero-code) (log_of text ends) run own.ended own.short

  pub log-text : judged_log text (log_of text ends) ≡ judged_text plan (judged_of plan (log_of text ends))
  unfolding judged_log
  log-text = rw (eq-eqb (reading_of text).answer.code 0 zero-code)
