-- What the public functions answer, by the tests that lead there.
use Prim.Native.Nat.{ℕ, ◌-◌, ◌<◌}
use native.Mathlib.Omega.{arith}
use mathlib.Core.Bool.{Bool, true, false, not, cond, ◌&&◌, ◌||◌, and-true}
use mathlib.Core.Path.{◌≡◌, refl, sym, ap, ◌∙◌}
use mathlib.Core.Logic.{◌≢◌}
use lib.Dec.{leb, ltb, eqb}
use borrow.Author.Tests.{eq-eqb, ne_eqb, not-true, not-false}
use Rattle.laws.proofs.Cases.{by_bool, by-eq}
use Rattle.theory.specs.Figure.{minimum_early}
use Rattle.theory.specs.Book.{waiting, running, is_dropped, limit}
use Rattle.theory.specs.Report.{none_past, report_code, drop_code}
use Rattle.theory.specs.Words.Events.{Accepts, AcceptsDrop}
use Rattle.theory.proofs.Reflect.{code-accepts, code-accepts-drop}
use Rattle.plan.specs.Answer.{refuse, granted}
use Rattle.plan.specs.Value.{is_accepted, zero_plan}
use Rattle.plan.specs.declared.Answer.{Answer}
use Rattle.plan.specs.declared.Plan.{Plan}
use Rattle.book_view.specs.View.{is_rule}
use Rattle.book_view.proofs.Accepted.{PlanFacts, plan-facts}
use Rattle.book.specs.View.{plan_in, plan_view, book_view}
use Rattle.book.specs.Sound.{is_sound}
use Rattle.book.specs.Open.{rule_number, blank_book, opened_on, opening_of}
use Rattle.book.specs.Report.{code_of, report_answer, next_book, reported_of}
use Rattle.book.specs.Drop.{drop_code_of, drop_answer, dropped_in, dropped_of}
use Rattle.book.specs.Early.{figure_of}
use Rattle.book.specs.declared.Book.{Book}
use Rattle.book.specs.declared.BookResult.{BookResult}
use Rattle.book.specs.declared.Rule.{Rule}
use Rattle.book.specs.declared.Figure.{Figure}
use Rattle.book.proofs.Soundness.{SoundFacts, is-sound-facts, number-is-rule}

-- opening
-- each of the two rules has a number
accepted-by : (plan : Plan) (rule : Rule) {ok : Bool} → ok ≡ (is_accepted plan && is_rule (rule_number rule)) → ok ≡ is_accepted plan
accepted-by plan rule p = p ∙ ap (λ (known : Bool). is_accepted plan && known) (number-is-rule rule) ∙ and-true (is_accepted plan)

module _ (plan : Plan) (rule : Rule) {ok : Bool} (p : ok ≡ (is_accepted plan && is_rule (rule_number rule))) {answer : Answer} where
  pub opening-refused :
      {book : Book} → ok ≡ false → answer ≡ refuse 9 0 0 → book ≡ blank_book 0 zero_plan
      → ◌≡◌ {A = BookResult} (record { answer = answer; book = book }) (opening_of plan rule)
  unfolding opening_of
  opening-refused h a b = rw (sym (accepted-by plan rule p) ∙ h, a, b)

  pub opening-granted :
      {book : Book} → ok ≡ true → answer ≡ granted → book ≡ opened_on plan rule
      → ◌≡◌ {A = BookResult} (record { answer = answer; book = book }) (opening_of plan rule)
  unfolding opening_of
  opening-granted h a b = rw (sym (accepted-by plan rule p) ∙ h, a, b)

pub sound-plan : (book : Book) → is_sound book ≡ true → PlanFacts (plan_in book)
sound-plan book h = plan-facts (plan_in book) ((is-sound-facts book).0 h).accepted

-- code 0 names a running task, code 0 of a drop a waiting one
numbered-zero : (task code : ℕ) → cond (eqb task 0) 10 code ≡ 0 → (0 < task) × (code ≡ 0)
numbered-zero task code h =
    by-eq task 0
    (λ e. let z : ◌≡◌ {A = ℕ} 10 0 = rw (eq-eqb task 0 e) at h in absurd (omega arith))
    (λ n. (omega arith, rw (ne_eqb task 0 n) at h))

pub code-zero :
    (book : Book) (task tick : ℕ) → code_of book task tick ≡ 0
    → (0 < task) × (Accepts (plan_view book) (book_view book) (task - 1) tick)
unfolding code_of
code-zero book task tick h =
    let r = numbered-zero task _ h in (r.0, code-accepts (plan_view book) (book_view book) (task - 1) tick r.1)

pub drop-zero :
    (book : Book) (task : ℕ) → drop_code_of book task ≡ 0 → (0 < task) × (AcceptsDrop (plan_view book) (book_view book) (task - 1))
unfolding drop_code_of
drop-zero book task h =
    let r = numbered-zero task _ h in (r.0, code-accepts-drop (plan_view book) (book_view book) (task - 1) r.1)

-- the other codes are not 9
not-nine : (test : Bool) (one other : ℕ) → one ≢ 9 → other ≢ 9 → cond test one other ≢ 9
not-nine true one other n m = n
not-nine false one other n m = m

report-not-nine : (book : Book) (task tick : ℕ) → code_of book task tick ≢ 9
unfolding code_of report_code
report-not-nine book task tick =
    let plan = plan_view book in
    let seen = book_view book in
    let k = task - 1 in
    not-nine (eqb task 0) 10 _ (λ e. omega arith)
    (not-nine (leb book.tasks k) 10 _ (λ e. omega arith)
    (not-nine (not (running seen.mark k)) 11 _ (λ e. omega arith)
    (not-nine (ltb tick book.clock) 12 _ (λ e. omega arith)
    (not-nine (leb tick (seen.start k)) 13 _ (λ e. omega arith)
    (not-nine (ltb (limit plan seen k) tick) 14 _ (λ e. omega arith)
    (not-nine (not (none_past plan seen tick)) 15 0 (λ e. omega arith) (λ e. omega arith)))))))

drop-not-nine : (book : Book) (task : ℕ) → drop_code_of book task ≢ 9
unfolding drop_code_of drop_code
drop-not-nine book task =
    let seen = book_view book in
    let k = task - 1 in
    not-nine (eqb task 0) 10 _ (λ e. omega arith)
    (not-nine (leb book.tasks k) 10 _ (λ e. omega arith)
    (not-nine (not (waiting seen.mark k) || is_dropped seen.dropped k) 19 0 (λ e. omega arith) (λ e. omega arith)))

-- 9 first, then the code of a sound book
module _ (sound : Bool) (inner code : ℕ) (c : code ≡ cond (not sound) 9 inner) where
  pub told-granted : code ≡ 0 → (sound ≡ true) × (inner ≡ 0)
  told-granted z =
      by_bool sound
      (λ h. (h, let r = sym c ∙ z in rw h at r))
      (λ h. let r = sym c ∙ z in let q : ◌≡◌ {A = ℕ} 9 0 = rw h at r in absurd (omega arith))

  -- 0 and 9 say 0 and 0 besides
  pub told-answer :
      (first second : ℕ) → inner ≢ 9
      → cond (eqb code 0 || eqb code 9) (refuse code 0 0) (refuse code first second)
      ≡ cond (not sound) (refuse 9 0 0) (cond (eqb inner 0) granted (refuse inner first second))
  told-answer first second n =
      by_bool sound
      (λ h.
      let e : code ≡ inner = rw h at c in
      by-eq inner 0
      (λ z. let o : code ≡ 0 = e ∙ z in rw (h, o, z))
      (λ m. rw (h, e, ne_eqb inner 9 n, ne_eqb inner 0 m)))
      (λ h. let e : code ≡ 9 = rw h at c in rw (h, e))

not-granted : (sound : Bool) (inner code first second : ℕ) → code ≡ cond (not sound) 9 inner → code ≢ 0
    → eqb (cond (not sound) (refuse 9 0 0) (cond (eqb inner 0) granted (refuse inner first second))).code 0 ≡ false
not-granted true inner code first second c z =
    let m : inner ≢ 0 = λ q. z (c ∙ q) in rw (ne_eqb inner 0 m) (ne_eqb inner 0 m)
not-granted false inner code first second c z = refl

-- a report
module _ (book : Book) (task tick : ℕ) {code : ℕ} (c : code ≡ cond (not (is_sound book)) 9 (code_of book task tick))
    {answer : Answer} (a : answer ≡ cond (eqb code 0 || eqb code 9) (refuse code 0 0) (refuse code task tick)) where
  its-answer : answer ≡ report_answer book task tick
  unfolding report_answer
  its-answer = a ∙ told-answer (is_sound book) (code_of book task tick) code c task tick (report-not-nine book task tick)

  pub reported-refused :
      {after : Book} → code ≢ 0 → after ≡ book
      → ◌≡◌ {A = BookResult} (record { answer = answer; book = after }) (reported_of book task tick)
  unfolding reported_of report_answer
  reported-refused n e = rw (its-answer, e, not-granted (is_sound book) (code_of book task tick) code task tick c n)

  pub reported-granted :
      {after : Book} → code ≡ 0 → after ≡ next_book book (task - 1) tick
      → ◌≡◌ {A = BookResult} (record { answer = answer; book = after }) (reported_of book task tick)
  unfolding reported_of report_answer
  reported-granted z e =
      let t = told-granted (is_sound book) (code_of book task tick) code c z in rw (its-answer, e, t.0, t.1)

module _ (book : Book) (task tick : ℕ) {code : ℕ} (c : code ≡ cond (not (is_sound book)) 9 (code_of book task tick)) where
  module _ (z : code ≡ 0) where
    pub its-sound : is_sound book ≡ true
    its-sound = (told-granted (is_sound book) (code_of book task tick) code c z).0

    its-task : (0 < task) × (Accepts (plan_view book) (book_view book) (task - 1) tick)
    its-task = code-zero book task tick (told-granted (is_sound book) (code_of book task tick) code c z).1

    pub granted-task : 0 < task
    granted-task = its-task.0

    pub granted-accepts : Accepts (plan_view book) (book_view book) (task - 1) tick
    granted-accepts = its-task.1

    pub granted-place : task - 1 < 64
    granted-place = omega (arith, its-task.1.task, (sound-plan book its-sound).tasks-to)

    pub granted-facts : SoundFacts book
    granted-facts = (is-sound-facts book).0 its-sound

-- a drop
module _ (book : Book) (task : ℕ) {code : ℕ} (c : code ≡ cond (not (is_sound book)) 9 (drop_code_of book task))
    {answer : Answer} (a : answer ≡ cond (eqb code 0 || eqb code 9) (refuse code 0 0) (refuse code task 0)) where
  drop-answer : answer ≡ drop_answer book task
  unfolding drop_answer
  drop-answer = a ∙ told-answer (is_sound book) (drop_code_of book task) code c task 0 (drop-not-nine book task)

  pub dropped-refused :
      {after : Book} → code ≢ 0 → after ≡ book
      → ◌≡◌ {A = BookResult} (record { answer = answer; book = after }) (dropped_of book task)
  unfolding dropped_of drop_answer
  dropped-refused n e = rw (drop-answer, e, not-granted (is_sound book) (drop_code_of book task) code task 0 c n)

  pub dropped-granted :
      {after : Book} → code ≡ 0 → after ≡ dropped_in book (task - 1)
      → ◌≡◌ {A = BookResult} (record { answer = answer; book = after }) (dropped_of book task)
  unfolding dropped_of drop_answer
  dropped-granted z e =
      let t = told-granted (is_sound book) (drop_code_of book task) code c z in rw (drop-answer, e, t.0, t.1)

module _ (book : Book) (task : ℕ) {code : ℕ} (c : code ≡ cond (not (is_sound book)) 9 (drop_code_of book task)) where
  module _ (z : code ≡ 0) where
    drop-task : (0 < task) × (AcceptsDrop (plan_view book) (book_view book) (task - 1))
    drop-task = drop-zero book task (told-granted (is_sound book) (drop_code_of book task) code c z).1

    pub dropped-task : 0 < task
    dropped-task = drop-task.0

    pub dropped-facts : SoundFacts book
    dropped-facts = (is-sound-facts book).0 (told-granted (is_sound book) (drop_code_of book task) code c z).0

    pub dropped-known : task - 1 < book.tasks
    dropped-known = drop-task.1.task

    pub dropped-place : task - 1 < 64
    dropped-place = omega (arith, dropped-known, (sound-plan book (told-granted (is_sound book) (drop_code_of book task) code c z).0).tasks-to)

-- the same of the definitions alone
module _ (book : Book) (task : ℕ) (h : is_sound book ≡ true) where
  pub drop-refused-book : drop_code_of book task ≢ 0 → (dropped_of book task).book ≡ book
  unfolding dropped_of drop_answer
  drop-refused-book n = rw (h, ne_eqb (drop_code_of book task) 0 n, ne_eqb (drop_code_of book task) 0 n)

  pub drop-granted-book : drop_code_of book task ≡ 0 → (dropped_of book task).book ≡ dropped_in book (task - 1)
  unfolding dropped_of drop_answer
  drop-granted-book z = rw (h, eq-eqb (drop_code_of book task) 0 z)

module _ (book : Book) (task tick : ℕ) (h : is_sound book ≡ true) where
  pub book-refused : code_of book task tick ≢ 0 → (reported_of book task tick).book ≡ book
  unfolding reported_of report_answer
  book-refused n = rw (h, ne_eqb (code_of book task tick) 0 n, ne_eqb (code_of book task tick) 0 n)

  pub book-granted : code_of book task tick ≡ 0 → (reported_of book task tick).book ≡ next_book book (task - 1) tick
  unfolding reported_of report_answer
  book-granted z = rw (h, eq-eqb (code_of book task tick) 0 z)

-- minimum early
module _ (book : Book) {sound : Bool} (s : sound ≡ is_sound book) {answer : Answer} where
  pub figure-refused : not sound ≡ true → answer ≡ refuse 9 0 0 → ◌≡◌ {A = Figure} (record { answer = answer; early = 0 }) (figure_of book)
  unfolding figure_of
  figure-refused h a = rw (a, sym s ∙ not-true sound h)

  pub figure-granted :
      not sound ≡ false → answer ≡ granted → {early : ℕ}
      → early ≡ minimum_early (plan_view book) (book_view book)
      → ◌≡◌ {A = Figure} (record { answer = answer; early = early }) (figure_of book)
  unfolding figure_of
  figure-granted h a e = rw (a, e, sym s ∙ not-false sound h)
