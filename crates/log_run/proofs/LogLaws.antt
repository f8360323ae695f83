-- The whole log, by the tests that lead to it.
use Prim.Native.Nat.{ℕ, ◌≤◌, ◌<◌}
use mathlib.Core.Path.{◌≡◌, refl, sym, ap, ◌∙◌}
use mathlib.Core.Logic.{◌≢◌}
use mathlib.Core.Bool.{false}
use mathlib.Core.List.{List, ◌++◌}
use native.Mathlib.Omega.{arith}
use lib.ListN.{length}
use lib.Seq.{sets}
use borrow.Author.Tests.{eq-eqb, ne_eqb, lt-ltb, le-ltb, lt-leb, le-leb}
use Rattle.laws.specs.Split.{after}
use Rattle.text.specs.Line.{LF}
use Rattle.plan.specs.Answer.{refuse}
use Rattle.plan.specs.Read.{reading_of, text_answer}
use Rattle.plan.specs.declared.Answer.{Answer}
use Rattle.plan.specs.declared.Plan.{Plan}
use Rattle.plan.specs.declared.Reading.{Reading}
use Rattle.plan.proofs.ReadOk.{read_answer, read-accepted, read-sized}
use Rattle.book.specs.Open.{opened_on, opening_of}
use Rattle.book.specs.declared.Book.{Book}
use Rattle.book.specs.declared.BookResult.{BookResult}
use Rattle.book.specs.declared.Rule.{Rule}
use Rattle.book.specs.declared.Rule.TheVariants.{Clash}
use Rattle.book.proofs.Sizes.{sized-opened}
use Rattle.log_read.specs.Rules.{choice_of}
use Rattle.log_read.specs.Said.{Choice}
use Rattle.log_read.specs.Said.Choice.{Unsaid, Chosen, Malformed}
use Rattle.log_run.specs.Log.{shown_after, open_log, rest_log, chosen_log, log_of, log_most, log_in}
use Rattle.log_write.specs.Lines.{Lined, refused_line}
use Rattle.log_write.specs.Private.Wrote.{Wrote}
use Rattle.log_run.specs.Private.Writes.{opened_in, rule_of}
use Rattle.log_run.specs.Private.Room.{EndsFit, LogFits, ends_most}
use Rattle.log_write.proofs.WriteLaws.{also, looser, wrote-length, wrote-line}
use Rattle.log_run.proofs.ComeLaws.{come-most}
use Rattle.log_run.proofs.OpenLaws.{rest-less}
use Rattle.log_run.proofs.AnswerLaws.{its-book, its-few, its-text}

-- the contract of run_log
abbrev pub Ran : List ℕ → List ℕ → List ℕ → List ℕ → ℕ → Type 0
Ran plan ends out written r =
    (r ≡ length (log_in (length out) plan ends)) × (written ≡ sets out 0 (log_in (length out) plan ends)) × (r ≤ log_most)

module _ (plan ends out : List ℕ) where
  pub ran-short : length out < 212992 → Ran plan ends out out 0
  ran-short h = let t = lt-leb 212992 (length out) h in (rw t, rw t, omega arith)

  module _ (long : 212992 ≤ length out) {m : List ℕ} {p : ℕ} where
    ran-whole : {text : List ℕ} {a : ℕ} → text ≡ log_of plan ends → a ≤ 212992 → Wrote out 0 text a m p → Ran plan ends out m p
    ran-whole {text} e h w =
        let t = le-leb 212992 (length out) long in
        let n : length text ≡ length (log_of plan ends) = ap length e in
        (rw t (omega (arith, w.place)), rw (t, ← e) w.bytes, omega (arith, w.place, w.small))

    pub ran-refused :
        {r : Reading} → r ≡ reading_of plan → r.answer.code ≢ 0 → Lined out 0 (refused_line r.answer) 41 m p → Ran plan ends out m p
    unfolding log_of
    ran-refused e h w =
        let h' : (reading_of plan).answer.code ≢ 0 = rw e at h in
        ran-whole (rw e (rw (ne_eqb (reading_of plan).answer.code 0 h'))) (omega arith) (wrote-line (omega arith) w)

-- ---- the plan is accepted

-- what is known then
pub record Accepted (plan out : List ℕ) (reading : Reading) : Type 0 where
  pub long : 212992 ≤ length out
  pub reads : reading ≡ reading_of plan
  pub zero : reading.answer.code ≡ 0

module _ {plan out : List ℕ} {reading : Reading} (k : Accepted plan out reading) where
  its-zero : (reading_of plan).answer.code ≡ 0
  its-zero = rw k.reads at k.zero

  pub ran-long :
      (ends : List ℕ) {m : List ℕ} {p : ℕ} → 32768 < length ends → Lined out 0 (refused_line (refuse 1 0 0)) 41 m p → Ran plan ends out m p
  unfolding log_of
  ran-long ends h w =
      ran-whole plan ends out k.long
      (rw (eq-eqb (reading_of plan).answer.code 0 its-zero, lt-ltb 32768 (length ends) h))
      (omega arith)
      (wrote-line (omega (arith, k.long)) w)

  read-code : (text_answer false plan).code ≡ 0
  read-code = ap (λ (a : Answer). a.code) (sym (read_answer false plan)) ∙ its-zero

  module _ (ends : List ℕ) (short : length ends ≤ 32768) where
    pub log-fits : LogFits reading.plan ends out
    log-fits = record {
      accepted = rw k.reads (read-accepted false plan read-code);
      sized = rw k.reads (read-sized false plan read-code);
      short = short;
      long = k.long;
    }

    pub ran-chosen-log : {m : List ℕ} {p : ℕ} → Wrote out 0 (chosen_log (choice_of ends) reading.plan ends) 212992 m p → Ran plan ends out m p
    unfolding log_of
    ran-chosen-log w =
        ran-whole plan ends out k.long
        (rw (k.reads, eq-eqb (reading_of plan).answer.code 0 its-zero, le-ltb 32768 (length ends) short))
        (omega arith)
        w

-- ---- its book is opened

-- what is known then: it is opened by the rule that the first line chooses
pub record Opened (plan : Plan) (ends out : List ℕ) (choice : Choice) (handed : BookResult) (early : ℕ) : Type 0 where
  pub rule : Rule
  pub fits : LogFits plan ends out
  pub chosen : choice ≡ choice_of ends
  pub ruled : rule ≡ rule_of choice
  pub opens : handed ≡ opening_of plan rule
  pub shows : early ≡ (shown_after handed.answer handed.book).early

pub opened-by :
    {plan : Plan} {ends out : List ℕ} {choice : Choice} {rule : Rule} {handed : BookResult} {early : ℕ}
    → LogFits plan ends out → choice ≡ choice_of ends → rule ≡ rule_of choice → handed ≡ opening_of plan rule
    → early ≡ (shown_after handed.answer handed.book).early → Opened plan ends out choice handed early
opened-by {rule = rule} f c r h e = record { rule = rule; fits = f; chosen = c; ruled = r; opens = h; shows = e }

module _ {plan : Plan} {ends out : List ℕ} {choice : Choice} {handed : BookResult} {early : ℕ} (o : Opened plan ends out choice handed early) where
  its-rule : {this : Choice} → choice ≡ this → o.rule ≡ rule_of this
  its-rule c = o.ruled ∙ ap rule_of c

  log_is : {this : Choice} → choice ≡ this → chosen_log this plan ends ≡ chosen_log (choice_of ends) plan ends
  log_is c = ap (λ (x : Choice). chosen_log x plan ends) (sym c ∙ o.chosen)

  ends-most : (rest : List ℕ) → length rest ≤ length ends → ends_most handed.book rest ≤ 206128
  ends-most rest l = omega (arith, o.fits.short, its-few plan o.rule o.opens o.fits.accepted, come-most handed.book.mark handed.book.dropped handed.book.tasks)

  module _ {m : List ℕ} {p : ℕ} (v : Wrote out 0 (opened_in handed.book early) 3432 m p) where
    -- the room for the rest of ends.txt from line 1 or 2 on
    pub ends-fit : {line : ℕ} {rest : List ℕ} → line ≤ 2 → length rest ≤ length ends → EndsFit m p handed.book line rest
    ends-fit {rest = rest} i l = record {
      begun = i;
      short = omega (arith, o.fits.short);
      sized = rw (its-book plan o.rule o.opens o.fits.accepted) (sized-opened plan o.rule o.fits.sized);
      room = omega (arith, o.fits.long, ends-most rest l, v.place, v.small, wrote-length v);
    }

    module _ {m' : List ℕ} {p' : ℕ} where
      ran-tail :
          {tail : List ℕ} {a : ℕ} → a ≤ 206128 → open_log plan o.rule ++ tail ≡ chosen_log (choice_of ends) plan ends → Wrote m p tail a m' p'
          → Wrote out 0 (chosen_log (choice_of ends) plan ends) 212992 m' p'
      ran-tail {tail} l f w =
          let e : opened_in handed.book early ++ tail ≡ chosen_log (choice_of ends) plan ends = ap (λ (x : List ℕ). x ++ tail) (its-text plan o.rule o.opens o.fits.accepted o.shows) ∙ f in
          let w' : Wrote out 0 (opened_in handed.book early ++ tail) 212992 m' p' = looser (omega arith) (also v w) in
          rw e at w'

      -- the rest from line n on, by the rule that was chosen
      ran-rest :
          (n : ℕ) (rest : List ℕ) {this : Choice} → choice ≡ this → length rest ≤ length ends
          → open_log plan (rule_of this) ++ rest_log (opened_on plan (rule_of this)) n rest ≡ chosen_log this plan ends
          → Wrote m p (rest_log handed.book n rest) (ends_most handed.book rest) m' p'
          → Wrote out 0 (chosen_log (choice_of ends) plan ends) 212992 m' p'
      ran-rest n rest c l f =
          ran-tail (ends-most rest l)
          (ap (λ (b : Book). open_log plan o.rule ++ rest_log b n rest) (its-book plan o.rule o.opens o.fits.accepted)
          ∙ ap (λ (x : Rule). open_log plan x ++ rest_log (opened_on plan x) n rest) (its-rule c)
          ∙ f
          ∙ log_is c)

      pub ran-unsaid :
          choice ≡ Unsaid → Wrote m p (rest_log handed.book 1 ends) (ends_most handed.book ends) m' p'
          → Wrote out 0 (chosen_log (choice_of ends) plan ends) 212992 m' p'
      unfolding chosen_log
      ran-unsaid c = ran-rest 1 ends c (omega arith) refl

      pub ran-chosen :
          choice ≡ Chosen → {rest : List ℕ} → rest ≡ after LF ends
          → Wrote m p (rest_log handed.book 2 rest) (ends_most handed.book rest) m' p'
          → Wrote out 0 (chosen_log (choice_of ends) plan ends) 212992 m' p'
      unfolding chosen_log
      ran-chosen c {rest} u = ran-rest 2 rest c (rest-less ends u) (ap (λ (s : List ℕ). open_log plan Clash ++ rest_log (opened_on plan Clash) 2 s) u)

      pub ran-malformed :
          {column : ℕ} → choice ≡ Malformed column → Lined m p (refused_line (refuse 3 1 column)) 41 m' p'
          → Wrote out 0 (chosen_log (choice_of ends) plan ends) 212992 m' p'
      unfolding chosen_log
      ran-malformed {column} c w =
          ran-tail (omega arith)
          (ap (λ (x : Rule). open_log plan x ++ refused_line (refuse 3 1 column)) (its-rule c) ∙ log_is c)
          (wrote-line (omega (arith, o.fits.long, v.place, v.small, wrote-length v)) w)
