-- One line at the desk, by the tests that lead to its turn.
use Prim.Native.Nat.{ℕ, ◌+◌, ◌-◌, ◌≤◌, ◌<◌}
use mathlib.Core.Path.{◌≡◌, sym, ap, subst, ◌∙◌}
use mathlib.Core.Logic.{◌≢◌}
use mathlib.Core.Bool.{Bool, true, false}
use mathlib.Core.List.{List}
use native.Mathlib.Omega.{arith}
use lib.Dec.{leb, eqb}
use lib.ListN.{length}
use borrow.Author.Tests.{eq-eqb, ne_eqb, le-leb, lt-leb, leb-true}
use Rattle.laws.proofs.Cases.{by_le, by-eq}
use Rattle.std.specs.Prelude.{Result, Ok}
use Rattle.log_read.specs.declared.LineFault.{LineFault}
use Rattle.plan.specs.Answer.{refuse}
use Rattle.plan.specs.declared.Answer.{Answer}
use Rattle.plan.specs.declared.Plan.{Plan}
use Rattle.book.specs.View.{plan_in}
use Rattle.book.specs.Open.{opening_of}
use Rattle.book.specs.declared.Book.{Book}
use Rattle.book.specs.declared.BookResult.{BookResult}
use Rattle.book.specs.declared.Rule.TheVariants.{Clash}
use Rattle.log_read.specs.Said.{Entry}
use Rattle.log_read.specs.Said.Entry.{End, Drop, Refused}
use Rattle.log_write.specs.Lines.{refused_line}
use Rattle.log_write.specs.Answers.{Answered}
use Rattle.log_run.specs.Log.{told_of, told_log}
use Rattle.log_run.specs.Answers.{entry_log, logged_of, opening_log, opening_logged}
use Rattle.log_run.specs.Private.Writes.{Short}
use Rattle.log_run.specs.declared.LogResult.{LogResult}
use Rattle.log_run.specs.declared.StepOutcome.{StepOutcome}
use Rattle.desk_read.specs.Lines.{asked_of}
use Rattle.desk_read.specs.Asked.{DeskLine, asked}
use Rattle.desk_read.specs.Asked.DeskLine.{Step, Rule, Early, Exact, Now, Drive, Why}
use Rattle.desk_read.specs.declared.DeskLine as line
use Rattle.desk_read.proofs.ReadLaws.{NearEntry}
use Rattle.desk_answers.specs.Answers.{early_answer, exact_answer, now_answer}
use Rattle.desk_answers.specs.Questions.{drive_answer, why_answer}
use Rattle.desk_turns.specs.Turns.{saying, taking, entry_turn, rule_turn, turn_by, turn_of, Took}
use Rattle.desk_turns.specs.Private.Taken.{unmoved, taken_or, full_answer}
use Rattle.desk_turns.specs.declared.Morning.{Morning}
use Rattle.desk_turns.specs.declared.Turn.{Turn}

-- ---- the room in ends.txt

module _ (kept size : ℕ) where
  pub room-none : 32768 ≤ size → false ≡ leb (kept + size + 1) 32768
  room-none h = sym (lt-leb (kept + size + 1) 32768 (omega arith))

  pub room-some : size < 32768 → leb kept (32768 - 1 - size) ≡ leb (kept + size + 1) 32768
  room-some h =
      by_le kept (32768 - 1 - size)
      (λ l. le-leb kept (32768 - 1 - size) l ∙ sym (le-leb (kept + size + 1) 32768 (omega arith)))
      (λ l. lt-leb kept (32768 - 1 - size) l ∙ sym (lt-leb (kept + size + 1) 32768 (omega arith)))

  pub room-is : {room : Bool} → room ≡ leb (kept + size + 1) 32768 → room ≡ true → kept + size + 1 ≤ 32768
  room-is {room} e n = leb-true (kept + size + 1) 32768 (sym e ∙ n)

-- ---- what is said, taken, or refused for want of room

module _ (morning : Morning) (answer : Answer) (book : Book) (size length : ℕ) where
  pub taken-no : answer.code ≢ 0 → {r : Turn} → r ≡ unmoved morning length → r ≡ taken_or morning answer book size length
  unfolding taken_or
  taken-no n e = rw (ne_eqb answer.code 0 n) e

  pub taken_yes :
      answer.code ≡ 0
      → ◌≡◌ {A = Turn} (record { morning = record { book = book; kept = morning.kept + size + 1 }; length = length; keeps = true }) (taken_or morning answer book size length)
  unfolding taken_or
  taken_yes z = rw (eq-eqb answer.code 0 z)

module _ {out m : List ℕ} where
  pub said-took :
      {morning : Morning} {text : List ℕ} {n : ℕ} {r : Turn} → r ≡ unmoved morning n → Answered out text m n → Took out (saying morning text) m r
  said-took {morning} {text} e a = record {
    turn = e ∙ ap (unmoved morning) a.place;
    wrote = subst (λ (t : Turn). Answered out text m t.length) (sym e) a;
  }

  pub full-no :
      {morning : Morning} (answer : Answer) {n : ℕ} {r : Turn} → answer.code ≢ 0 → r ≡ unmoved morning n → Answered out (refused_line answer) m n
      → Took out (saying morning (refused_line (full_answer answer))) m r
  full-no answer n e a = rw (ne_eqb answer.code 0 n) (said-took e a)

  pub full-yes :
      {morning : Morning} (answer : Answer) {n : ℕ} {a : Answer} {r : Turn} → answer.code ≡ 0 → a ≡ refuse 1 0 0 → r ≡ unmoved morning n
      → Answered out (refused_line a) m n → Took out (saying morning (refused_line (full_answer answer))) m r
  full-yes answer z q e a = rw (eq-eqb answer.code 0 z) (said-took e (rw q at a))

-- ---- a line that may be kept: by its room, its answer, the book after it and what is printed

module _ (morning : Morning) (size : ℕ) (answer : Answer) (book : Book) (text : List ℕ)
    {room : Bool} (e : room ≡ leb (morning.kept + size + 1) 32768) {out m : List ℕ} {r : Turn} where
  pub took-room :
      room ≡ true → {a : Answer} {b : Book} {n : ℕ} → a ≡ answer → b ≡ book → Answered out text m n → r ≡ taken_or morning a b size n
      → Took out (taking morning size answer book text) m r
  unfolding taking taken_or
  took-room f {a} {b} {n} p q w t =
      let l : leb (morning.kept + size + 1) 32768 ≡ true = sym e ∙ f in
      by-eq answer.code 0
      (λ z.
      let z' : a.code ≡ 0 = ap (λ (x : Answer). x.code) p ∙ z in
      let t' : r ≡ record { morning = record { book = b; kept = morning.kept + size + 1 }; length = n; keeps = true } = rw (eq-eqb a.code 0 z') at t in
      rw (eq-eqb answer.code 0 z, l)
      (record {
        turn =
            t'
            ∙ (λ i. record {
              morning = record { book = q i; kept = morning.kept + size + 1 };
              length = w.place i;
              keeps = true;
            });
        wrote = subst (λ (x : Turn). Answered out text m x.length) (sym t') w;
      }))
      (λ z.
      let z' : a.code ≢ 0 = λ k. z (sym (ap (λ (x : Answer). x.code) p) ∙ k) in
      let t' : r ≡ unmoved morning n = rw (ne_eqb a.code 0 z') at t in
      rw (ne_eqb answer.code 0 z) (said-took t' w))

  pub took-full :
      room ≡ false → {a : Answer} → a ≡ answer → (answer.code ≢ 0 → text ≡ refused_line answer)
      → Took out (saying morning (refused_line (full_answer a))) m r → Took out (taking morning size answer book text) m r
  unfolding taking
  took-full f {a} p h t =
      let l : leb (morning.kept + size + 1) 32768 ≡ false = sym e ∙ f in
      let t' : Took out (saying morning (refused_line (full_answer answer))) m r = rw p at t in
      by-eq answer.code 0
      (λ z. rw (eq-eqb answer.code 0 z, l) (rw (eq-eqb answer.code 0 z) at t'))
      (λ z.
      rw (ne_eqb answer.code 0 z)
      (subst (λ (x : List ℕ). Took out (saying morning x) m r) (sym (h z)) (rw (ne_eqb answer.code 0 z) at t')))

-- ---- what is printed for a refusal

entry-refused : (n : ℕ) (book : Book) (entry : Entry) → (told_of n book entry).answer.code ≢ 0 → entry_log n book entry ≡ refused_line (told_of n book entry).answer
unfolding told_log
entry-refused n book entry d = rw (ne_eqb (told_of n book entry).answer.code 0 d)

pub opening-refused : (plan : Plan) → (opening_of plan Clash).answer.code ≢ 0 → opening_log plan Clash ≡ refused_line (opening_of plan Clash).answer
opening-refused plan n = rw (ne_eqb (opening_of plan Clash).answer.code 0 n)

-- ---- reports, drops and the rule

module _ (morning : Morning) (size : ℕ) {room : Bool} (e : room ≡ leb (morning.kept + size + 1) 32768)
    {out m : List ℕ} {r : Turn} where
  pub entry-full :
      (n : ℕ) (entry : Entry) → room ≡ false → {told : StepOutcome} → told ≡ told_of n morning.book entry
      → Took out (saying morning (refused_line (full_answer told.answer))) m r → Took out (entry_turn morning n size entry) m r
  entry-full n entry f p t =
      took-full morning size (told_of n morning.book entry).answer (told_of n morning.book entry).book (entry_log n morning.book entry) e f
      (ap (λ (x : StepOutcome). x.answer) p) (entry-refused n morning.book entry) t

  pub entry-took :
      (n : ℕ) (entry : Entry) → room ≡ true → {l : LogResult}
      → (l ≡ logged_of n morning.book entry) × Answered out (entry_log n morning.book entry) m l.length
      → r ≡ taken_or morning l.answer l.book size l.length → Took out (entry_turn morning n size entry) m r
  unfolding logged_of
  entry-took n entry f w t =
      took-room morning size (told_of n morning.book entry).answer (told_of n morning.book entry).book (entry_log n morning.book entry) e f
      (ap (λ (x : LogResult). x.answer) w.0) (ap (λ (x : LogResult). x.book) w.0) w.1 t

  module _ {plan : Plan} (k : plan ≡ plan_in morning.book) where
    pub rule-full :
        {h : BookResult} → room ≡ false → h ≡ opening_of plan Clash → Took out (saying morning (refused_line (full_answer h.answer))) m r
        → Took out (rule_turn morning size) m r
    rule-full f q t =
        let q' = q ∙ ap (λ (x : Plan). opening_of x Clash) k in
        took-full morning size (opening_of (plan_in morning.book) Clash).answer (opening_of (plan_in morning.book) Clash).book
        (opening_log (plan_in morning.book) Clash) e f (ap (λ (x : BookResult). x.answer) q') (opening-refused (plan_in morning.book)) t

    pub rule-took :
        room ≡ true → {l : LogResult} → (l ≡ opening_logged plan Clash) × Answered out (opening_log plan Clash) m l.length
        → r ≡ taken_or morning l.answer l.book size l.length → Took out (rule_turn morning size) m r
    unfolding opening_logged
    rule-took f {l} w t =
        let w0 = w.0 ∙ ap (λ (x : Plan). opening_logged x Clash) k in
        let w1 : Answered out (opening_log (plan_in morning.book) Clash) m l.length = subst (λ (x : Plan). Answered out (opening_log x Clash) m l.length) k w.1 in
        took-room morning size (opening_of (plan_in morning.book) Clash).answer (opening_of (plan_in morning.book) Clash).book
        (opening_log (plan_in morning.book) Clash) e f (ap (λ (x : LogResult). x.answer) w0) (ap (λ (x : LogResult). x.book) w0) w1 t

-- ---- what the code tells apart by a match

pub asks : {r : Result line.DeskLine LineFault} {this that : line.DeskLine} → r ≡ Ok this → this ≡ that → asked r ≡ asked (Ok that)
asks p q = ap asked p ∙ ap (λ (x : line.DeskLine). asked (Ok x)) q

-- ---- the whole line

module _ (morning : Morning) (n : ℕ) (ended : Bool) (line : List ℕ) {asked : DeskLine} (e : asked ≡ asked_of (eqb morning.kept 0) ended line)
    {out m : List ℕ} {r : Turn} where
  turn-took : (this : DeskLine) → asked ≡ this → Took out (turn_by morning n (length line) this) m r → Took out (turn_of morning n ended line) m r
  unfolding turn_of
  turn-took this q t = subst (λ (x : DeskLine). Took out (turn_by morning n (length line) x) m r) (sym q ∙ e) t

  pub turn_step : {entry : Entry} → asked ≡ Step entry → Took out (entry_turn morning n (length line) entry) m r → Took out (turn_of morning n ended line) m r
  unfolding turn_by
  turn_step {entry} q t = turn-took (Step entry) q t

  pub turn-rule : asked ≡ Rule → Took out (rule_turn morning (length line)) m r → Took out (turn_of morning n ended line) m r
  unfolding turn_by
  turn-rule q t = turn-took Rule q t

  -- a question
  module _ {k : ℕ} (d : r ≡ unmoved morning k) where
    pub turn-early : asked ≡ Early → Answered out (early_answer morning.book) m k → Took out (turn_of morning n ended line) m r
    unfolding turn_by
    turn-early q a = turn-took Early q (said-took d a)

    pub turn-exact : asked ≡ Exact → Answered out (exact_answer morning.book) m k → Took out (turn_of morning n ended line) m r
    unfolding turn_by
    turn-exact q a = turn-took Exact q (said-took d a)

    pub turn-now : asked ≡ Now → Answered out (now_answer morning.book) m k → Took out (turn_of morning n ended line) m r
    unfolding turn_by
    turn-now q a = turn-took Now q (said-took d a)

    pub turn-drive : {drive : ℕ} → asked ≡ Drive drive → Answered out (drive_answer morning.book drive) m k → Took out (turn_of morning n ended line) m r
    unfolding turn_by
    turn-drive {drive} q a = turn-took (Drive drive) q (said-took d a)

    pub turn-why : {task : ℕ} → asked ≡ Why task → Answered out (why_answer morning.book task) m k → Took out (turn_of morning n ended line) m r
    unfolding turn_by
    turn-why {task} q a = turn-took (Why task) q (said-took d a)

-- a column that an answer can say
pub near-short : (entry : Entry) → NearEntry entry → Short entry
near-short (End task tick) h = h
near-short (Drop task) h = h
near-short (Refused code column) h = omega (arith, h.1)
