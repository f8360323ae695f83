-- The answer to a question why: by which number it is refused, and the chain that is handed out where it is not.
use Prim.Native.Nat.{ℕ, zero, suc, ◌+◌, ◌-◌, ◌≤◌, ◌<◌}
use native.Mathlib.Omega.{arith}
use mathlib.Core.Path.{◌≡◌, refl, sym, ap, ◌∙◌}
use mathlib.Core.Logic.{◌↔◌, ◌⊎◌, inl, inr, ⊎_elim}
use mathlib.Core.Bool.{Bool, true, false, ◌||◌}
use mathlib.Core.List.{List, [], ◌∷◌, ◌++◌, map}
use lib.Dec.{eqb, ltb}
use lib.ListN.{length, drop, replicate, length-map, get_or-append}
use lib.Seq.{sets, get_or-append-add, get_or-drop, length-sets}
use borrow.Author.Tests.{eq-eqb, eqb-true, lt-ltb, ltb-true}
use Rattle.laws.proofs.Blank.{sets-front}
use Rattle.laws.proofs.Cases.{by_bool, by-eq, or_at, or_l, or_r, true-false}
use Rattle.theory.specs.Chain.{chain_of}
use Rattle.theory.proofs.Chain.{chain_length}
use Rattle.plan.specs.Answer.{refuse, granted}
use Rattle.plan.specs.Value.{at}
use Rattle.book_view.proofs.Laid.{length-zeros, at-zeros}
use Rattle.book_view.proofs.Accepted.{plan-facts}
use Rattle.book.specs.View.{plan_in, plan_view, book_view}
use Rattle.book.specs.Sound.{is_sound}
use Rattle.book.specs.declared.Book.{Book}
use Rattle.book.proofs.Soundness.{is-sound-facts}
use Rattle.ask_why.specs.Chained.{chained, chain_for}
use Rattle.ask_why.specs.declared.Chain.{Chain}
use Rattle.ask_why.proofs.AskLaws.{asked-missing, asked-task, asked-waiting, asked-started}
use Rattle.ask_why.specs.Why.{why_of}
use Rattle.promises.specs.Ladder.{Ladder}
use Rattle.promises.specs.Runs.{Waiting, Started}
use Rattle.promises.proofs.Ladder.{First, ladder_of}
use Rattle.promises_ask.specs.Chains.{why_checks, WhySays}

abbrev code_in : Chain → ℕ
code_in chain = chain.answer.code

module _ (book : Book) (task : ℕ) where
  abbrev missing : Bool
  missing = eqb task 0 || ltb book.tasks task

  missing-is : (missing ≡ true) ↔ ((task < 1) ⊎ (book.tasks < task))
  missing-is = (
    λ h.
        ⊎_elim (λ e. let z = eqb-true task 0 e in inl (omega arith)) (λ e. inr (ltb-true book.tasks task e))
        (or_at (eqb task 0) (ltb book.tasks task) h),
    ⊎_elim (λ l. or_l (ltb book.tasks task) (eq-eqb task 0 (omega arith))) (λ l. or_r (eqb task 0) (lt-ltb book.tasks task l)),
  )

  waiting-is : (eqb (at book.mark (task - 1)) 0 ≡ true) ↔ Waiting book (task - 1)
  waiting-is = (λ h. eqb-true (at book.mark (task - 1)) 0 h, λ z. eq-eqb (at book.mark (task - 1)) 0 z)

  -- what is answered, case by case
  pub data Answered (chain : Chain) : Type 0 where
    unsound : is_sound book ≡ false → chain ≡ chained (refuse 9 0 0) [] → Answered chain
    unknown : is_sound book ≡ true → missing ≡ true → chain ≡ chained (refuse 10 task 0) [] → Answered chain
    waits : is_sound book ≡ true → missing ≡ false → Waiting book (task - 1) → chain ≡ chained (refuse 11 task 0) [] → Answered chain
    starts :
        is_sound book ≡ true → 0 < task → task - 1 < book.tasks → Started book (task - 1)
        → chain ≡ chained granted (chain_of (plan_view book) (book_view book) (task - 1)) → missing ≡ false → Answered chain

  by-sound : is_sound book ≡ true → why_of book task ≡ chain_for (plan_view book) (book_view book) task
  unfolding why_of
  by-sound h = rw h

  pub answered : Answered (why_of book task)
  unfolding why_of
  answered =
      by_bool (is_sound book)
      (λ h.
      by_bool missing
      (λ t. Answered.unknown h t (by-sound h ∙ sym (asked-missing (plan_view book) (book_view book) task t)))
      (λ f.
      by-eq (at book.mark (task - 1)) 0
      (λ m. Answered.waits h f m (by-sound h ∙ sym (asked-waiting (plan_view book) (book_view book) task f m)))
      (λ m.
      let l = asked-task book.tasks task f in
      Answered.starts h l.0 l.1 m (by-sound h ∙ sym (asked-started (plan_view book) (book_view book) task f m)) f)))
      (λ h. Answered.unsound h (rw h))

  why-first : First (why_checks book task) (why_of book task).answer.code
  why-first = go answered
    where
      go : Answered (why_of book task) → First (why_checks book task) (why_of book task).answer.code
      go (Answered.unsound h e) = First.here h (ap code_in e)
      go (Answered.unknown h t e) = First.past (λ f. true-false h f) (First.here (missing-is.0 t) (ap code_in e))
      go (Answered.waits h f m e) =
          First.past (λ u. true-false h u) (First.past (λ u. true-false (missing-is.1 u) f) (First.here m (ap code_in e)))
      go (Answered.starts h p l m e f) =
          First.past (λ u. true-false h u)
          (First.past (λ u. true-false (missing-is.1 u) f) (First.past m (First.end (ap code_in e))))

  pub why-ladder : Ladder (why_checks book task) (why_of book task).answer.code
  why-ladder = ladder_of (why_checks book task) (why_of book task).answer.code refl why-first

  pub why-says : WhySays task (why_of book task)
  why-says = go answered
    where
      empty : {code first : ℕ} {chain : Chain} → chain ≡ chained (refuse code first 0) [] → (chain.count ≡ 0) × ((k : ℕ) → at chain.links k ≡ 0)
      empty e = (ap (λ (c : Chain). c.count) e, λ k. ap (λ (c : Chain). at c.links k) e ∙ at-zeros k)

      go : Answered (why_of book task) → WhySays task (why_of book task)
      go (Answered.unsound h e) = WhySays.refused (inl (ap (λ (c : Chain). c.answer) e)) (empty e).0 (empty e).1
      go (Answered.unknown h t e) = WhySays.refused (inr (inl (ap (λ (c : Chain). c.answer) e))) (empty e).0 (empty e).1
      go (Answered.waits h f m e) = WhySays.refused (inr (inr (ap (λ (c : Chain). c.answer) e))) (empty e).0 (empty e).1
      go (Answered.starts h p l m e f) = WhySays.given (ap (λ (c : Chain). c.answer) e)

  sized : (links : List ℕ) → length (sets (replicate 64 0) 0 (map (λ i. i + 1) links)) ≡ 64
  sized links = length-sets (replicate 64 0) 0 (map (λ i. i + 1) links) ∙ length-zeros

  abbrev places : Chain → ℕ
  places chain = length chain.links

  pub why-size : length (why_of book task).links ≡ 64
  why-size = go answered
    where
      go : Answered (why_of book task) → length (why_of book task).links ≡ 64
      go (Answered.unsound h e) = ap places e ∙ length-zeros
      go (Answered.unknown h t e) = ap places e ∙ length-zeros
      go (Answered.waits h f m e) = ap places e ∙ length-zeros
      go (Answered.starts h p l m e f) = ap places e ∙ sized (chain_of (plan_view book) (book_view book) (task - 1))

  -- the chain that is handed out
  pub record Handed : Type 0 where
    pub sound : is_sound book ≡ true
    pub from : 0 < task
    pub known : task - 1 < book.tasks
    pub started : Started book (task - 1)
    pub is : why_of book task ≡ chained granted (chain_of (plan_view book) (book_view book) (task - 1))
    pub short : length (chain_of (plan_view book) (book_view book) (task - 1)) ≤ 64

  handed-by : Answered (why_of book task) → (why_of book task).answer.code ≡ 0 → Handed
  handed-by (Answered.unsound h e) z = let q = ap code_in e in absurd (omega arith)
  handed-by (Answered.unknown h t e) z = let q = ap code_in e in absurd (omega arith)
  handed-by (Answered.waits h f m e) z = let q = ap code_in e in absurd (omega arith)
  handed-by (Answered.starts h p l m e f) z = record {
    sound = h;
    from = p;
    known = l;
    started = m;
    is = e;
    short =
        let n = chain_length book.tasks (plan_view book) (book_view book) (task - 1) in
        let few = (plan-facts (plan_in book) ((is-sound-facts book).0 h).accepted).tasks-to in
        omega arith;
  }

  pub handed : (why_of book task).answer.code ≡ 0 → Handed
  handed z = handed-by answered z

  -- a started task of a sound book is answered
  pub granted-of : is_sound book ≡ true → 0 < task → task - 1 < book.tasks → Started book (task - 1) → (why_of book task).answer.code ≡ 0
  granted-of h p l m = go answered
    where
      go : Answered (why_of book task) → (why_of book task).answer.code ≡ 0
      go (Answered.unsound n e) = true-false h n
      go (Answered.unknown n t e) = ⊎_elim (λ q. absurd (omega arith)) (λ q. absurd (omega arith)) (missing-is.0 t)
      go (Answered.waits n f z e) = absurd (m z)
      go (Answered.starts n p' l' m' e f) = ap code_in e

-- the numbers of the links in their places
module _ (l : List ℕ) (short : length l ≤ 64) where
  numbers-at : (l : List ℕ) (k : ℕ) → k < length l → at (map (λ i. i + 1) l) k ≡ at l k + 1
  numbers-at [] k h = absurd (omega arith)
  numbers-at (i ∷ l) zero h = refl
  numbers-at (i ∷ l) (suc k) h = numbers-at l k (omega arith)

  abbrev numbers : List ℕ
  numbers = map (λ i. i + 1) l

  count_of : length numbers ≡ length l
  count_of = length-map l (λ i. i + 1)

  front : sets (replicate 64 0) 0 numbers ≡ numbers ++ drop (length numbers) (replicate 64 0)
  front = sets-front numbers (replicate 64 0) (omega (arith, count_of, length-zeros))

  pub place_of : (k : ℕ) → k < length l → at (sets (replicate 64 0) 0 numbers) k ≡ at l k + 1
  place_of k h =
      ap (λ (x : List ℕ). at x k) front ∙ get_or-append numbers (drop (length numbers) (replicate 64 0)) 0 k (omega (arith, count_of))
      ∙ numbers-at l k h

  pub place-past : (k : ℕ) → length l ≤ k → at (sets (replicate 64 0) 0 numbers) k ≡ 0
  place-past k h =
      let e : k ≡ length numbers + (k - length l) = omega (arith, count_of) in
      ap (λ (x : List ℕ). at x k) front
      ∙ ap (λ (n : ℕ). at (numbers ++ drop (length numbers) (replicate 64 0)) n) e
      ∙ get_or-append-add numbers (drop (length numbers) (replicate 64 0)) (k - length l) 0
      ∙ get_or-drop (length numbers) (replicate 64 0) (k - length l) 0
      ∙ at-zeros (length numbers + (k - length l))
