-- Each answer, by the tests that lead to it.
use Prim.Native.Nat.{ℕ, ◌+◌, ◌*◌, ◌≤◌}
use mathlib.Core.Path.{◌≡◌, sym, ◌∙◌}
use mathlib.Core.Logic.{◌≢◌}
use mathlib.Core.Bool.{Bool, true, false, not, cond}
use Rattle.std.specs.Prelude.{Option, Some, None, is_some, unwrap_or}
use Rattle.std.proofs.lemmas.Option.{none-some}
use Rattle.laws.proofs.Cases.{by-eq}
use Rattle.std.specs.Bool.{then_some}
use mathlib.Core.List.{List, [], ◌∷◌}
use native.Mathlib.Omega.{arith}
use lib.ListN.{length}
use borrow.Author.Tests.{eq-eqb, ne_eqb, not-true, not-false}
use Rattle.text.specs.Bytes.{bytes}
use Rattle.theory.proofs.Order as order
use Rattle.plan.specs.Answer.{refuse, is_granted}
use Rattle.plan.specs.declared.Answer.{Answer}
use Rattle.book_view.proofs.Accepted.{plan-facts, plan-lawful}
use Rattle.book.specs.View.{plan_in, plan_view, book_view}
use Rattle.book.specs.Sound.{is_sound}
use Rattle.book.specs.Early.{figure_of}
use Rattle.book.specs.declared.Book.{Book}
use Rattle.book.specs.declared.Figure.{Figure}
use Rattle.book.proofs.Soundness.{is-sound-facts}
use Rattle.ask_exact.specs.Figure.{exact_of}
use Rattle.ask_exact.specs.declared.Exact.{Exact}
use Rattle.log_write.specs.Lines.{numbers_line, refused_line, Lined}
use Rattle.log_write.specs.Answers.{Answered}
use Rattle.log_write.specs.Private.Wrote.{Wrote}
use Rattle.log_write.proofs.WriteLaws.{wrote-line, wrote-length, also}
use Rattle.desk_answers.specs.Answers.{unless_refused, known_line, early_answer, exact_answer, now_answer}
use Rattle.desk_answers.specs.Private.Arrays.{LimitsFit, Running}

pub answered : {out text : List ℕ} {a : ℕ} {m : List ℕ} {p : ℕ} → a ≤ 3432 → Wrote out 0 text a m p → Answered out text m p
answered h w = record { place = omega (arith, w.place); bytes = w.bytes; small = omega (arith, w.small) }

pub one_line :
    {out text : List ℕ} {a : ℕ} {m : List ℕ} {p : ℕ} → length out ≡ 3432 → a ≤ 52 → Lined out 0 text a m p → Answered out text m p
one_line l h w = answered (omega arith) (wrote-line (omega arith) w)

-- an answer that refuses, and one that grants
module _ (answer : Answer) where
  pub refusal-some : {a : Answer} → Some a ≡ cond (is_granted answer) None (Some answer) → (answer.code ≢ 0) × (a ≡ answer)
  refusal-some {a} q =
      by-eq answer.code 0
      (λ z. let e : None ≡ Some a = sym (q ∙ rw (eq-eqb answer.code 0 z)) in absurd (none-some _ e))
      (λ n. let e : Some a ≡ Some answer = q ∙ rw (ne_eqb answer.code 0 n) in (n, cc))

  pub refusal-none : None ≡ cond (is_granted answer) None (Some answer) → answer.code ≡ 0
  refusal-none q =
      by-eq answer.code 0 (λ z. z)
      (λ n. let e : None ≡ Some answer = q ∙ rw (ne_eqb answer.code 0 n) in absurd (none-some _ e))

-- a number that may not be known, as a value and as a flag beside it
pub known-as :
    (word numbers : List ℕ) (known : Bool) (last : ℕ) {o : Option ℕ} → o ≡ then_some known last
    → known_line word numbers (is_some o) (unwrap_or o 0) ≡ known_line word numbers known last
unfolding known_line
known-as word numbers true last q = rw q
known-as word numbers false last q = rw q

module _ (answer : Answer) (lines : List ℕ) {out m : List ℕ} {p : ℕ} where
  pub unless-no : answer.code ≢ 0 → Answered out (refused_line answer) m p → Answered out (unless_refused answer lines) m p
  unless-no n a = rw (ne_eqb answer.code 0 n) a

  pub unless-yes : answer.code ≡ 0 → Answered out lines m p → Answered out (unless_refused answer lines) m p
  unless-yes z a = rw (eq-eqb answer.code 0 z) a

module _ (book : Book) {out m : List ℕ} {p : ℕ} where
  module _ {figure : Figure} (e : figure ≡ figure_of book) where
    pub early-no : figure.answer.code ≢ 0 → Answered out (refused_line figure.answer) m p → Answered out (early_answer book) m p
    unfolding early_answer
    early-no n a = unless-no (figure_of book).answer _ (rw e at n) (rw e at a)

    pub early-yes :
        figure.answer.code ≡ 0 → length out ≡ 3432 → Lined out 0 (numbers_line (bytes "early") (book.clock ∷ figure.early ∷ [])) 30 m p
        → Answered out (early_answer book) m p
    unfolding early_answer
    early-yes z l w = unless-yes (figure_of book).answer _ (rw e at z) (one_line l (omega arith) (rw e at w))

  module _ {exact : Exact} (e : exact ≡ exact_of book) where
    pub exact-no : exact.answer.code ≢ 0 → Answered out (refused_line exact.answer) m p → Answered out (exact_answer book) m p
    unfolding exact_answer
    exact-no n a = unless-no (exact_of book).answer _ (rw e at n) (rw e at a)

    pub exact-yes :
        exact.answer.code ≡ 0 → length out ≡ 3432
        → {early : Option ℕ} → early ≡ then_some exact.known exact.early
        → Lined out 0 (known_line (bytes "exact") (book.clock ∷ []) (is_some early) (unwrap_or early 0)) 52 m p
        → Answered out (exact_answer book) m p
    unfolding exact_answer
    exact-yes z l q w =
        let said = known-as (bytes "exact") (book.clock ∷ []) exact.known exact.early q in
        unless-yes (exact_of book).answer _ (rw e at z) (one_line l (omega arith) (rw e at (rw said at w)))

-- ---- who runs now

module _ (book : Book) {sound : Bool} (s : sound ≡ is_sound book) where
  pub now-no :
      {out m : List ℕ} {p : ℕ} → not sound ≡ true → {a : Answer} → a ≡ refuse 9 0 0 → Answered out (refused_line a) m p
      → Answered out (now_answer book) m p
  unfolding now_answer
  now-no n q a = rw (sym s ∙ not-true sound n) (rw q at a)

  module _ (n : not sound ≡ false) where
    is : is_sound book ≡ true
    is = sym s ∙ not-false sound n

    pub now-few : book.tasks ≤ 64
    now-few = (plan-facts (plan_in book) ((is-sound-facts book).0 is).accepted).tasks-to

    -- nobody is late, so a limit is at most the planned finish
    pub now-fits : LimitsFit book
    now-fits i l r =
        let facts = (is-sound-facts book).0 is in
        let early =
        order.never-late (plan_view book) (book_view book) facts.sound (plan-lawful (plan_in book) facts.accepted book.rule) i l
        (λ z. omega (arith, r, z)) in
        let t = (plan-facts (plan_in book) facts.accepted).task i l in
        omega (arith, early, t.lasts, t.by_most)

    pub now-yes :
        {out m : List ℕ} {p c : ℕ} {m' : List ℕ} {p' : ℕ} → length out ≡ 3432
        → Running book out book.tasks m p c
        → Lined m p (numbers_line (bytes "now") (book.clock ∷ c ∷ [])) 30 m' p' → Answered out (now_answer book) m' p'
    unfolding now_answer
    now-yes {out} {m} {p} {c} l r w =
        let x = wrote-line (omega (arith, r.wrote.place, r.wrote.small, now-few, wrote-length r.wrote)) w in
        rw is (answered {a = 52 * book.tasks + 30} (omega (arith, now-few)) (also r.wrote (rw r.many at x)))
