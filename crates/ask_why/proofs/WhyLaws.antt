-- The wait sets of a judged book say what its rule says, and so does the chain that goes by them.
use Prim.Native.Nat.{ℕ, ◌-◌, ◌<◌, ◌≤◌, min}
use native.Mathlib.Omega.{arith}
use mathlib.Core.Bool.{Bool, true, false, not, ◌&&◌, ◌||◌}
use mathlib.Core.List.{List, []}
use mathlib.Core.Path.{◌≡◌, sym, ap, ◌∙◌}
use lib.Dec.{eqb, ltb}
use borrow.Author.Tests.{lt-ltb, not-true, not-false}
use Rattle.laws.specs.Bits.{has}
use Rattle.laws.proofs.Cases.{by_bool, by-eq, and_l, and-of}
use Rattle.theory.specs.Plan as theory-plan
use Rattle.theory.proofs.Facts.{Lawful}
use Rattle.theory.proofs.Chain.{lawful-falls}
use Rattle.theory.proofs.ChainsAlike.{chain-alike}
use Rattle.plan.specs.Answer.{refuse, granted}
use Rattle.plan.specs.Value.{at, is_accepted}
use Rattle.book_view.specs.View.{is_rule, book_seen}
use Rattle.book_view.proofs.Accepted.{plan-lawful}
use Rattle.std.specs.Prelude.{Option, Ok, Err}
use Rattle.book.proofs.WaitLaws.{unsound-err, sound-ok}
use Rattle.book_sound.proofs.WaitLaws.{few, agree}
use Rattle.book.specs.View.{plan_in, plan_view}
use Rattle.book.specs.Sound.{is_sound, judged_in}
use Rattle.book.specs.declared.Book.{Book}
use Rattle.ask_why.specs.Asked.{plan_by, seen_in}
use Rattle.ask_why.specs.Chained.{chained, chain_for}
use Rattle.ask_why.specs.declared.Chain.{Chain}
use Rattle.ask_why.specs.Why.{why_of}
use Rattle.ask_why.proofs.AskLaws.{asked-missing, asked-task, asked-waiting, asked-started}

-- what is asked looks only at what the chain looks at, and the mark
module _ (tasks : ℕ) (ready begin finish from to : ℕ → ℕ) (these those : ℕ → ℕ → Bool)
    (agree : (i j : ℕ) → i < tasks → j < tasks → these i j ≡ those i j) (mark start end dropped : List ℕ) (clock task : ℕ) where
  abbrev with : (ℕ → ℕ) → (ℕ → ℕ) → (ℕ → ℕ → Bool) → theory-plan.Plan
  with starts finishes waits = record { tasks = tasks; ready = ready; begin = starts; finish = finishes; waits = waits }

  for-alike :
      chain_for (with begin finish these) (book_seen mark start end dropped 0) task
      ≡ chain_for (with from to those) (book_seen mark start end dropped clock) task
  for-alike =
      by_bool (eqb task 0 || ltb tasks task)
      (λ t. sym (asked-missing _ _ task t) ∙ asked-missing _ _ task t)
      (λ f.
      by-eq (at mark (task - 1)) 0
      (λ m. sym (asked-waiting _ _ task f m) ∙ asked-waiting _ _ task f m)
      (λ m.
      sym (asked-started _ _ task f m)
      ∙ ap (chained granted)
      (chain-alike tasks ready begin finish from to these those agree (at mark) (at mark) (at start) (at end) (at dropped) 0 clock
      tasks (task - 1) (asked-task tasks task f).1)
      ∙ asked-started _ _ task f m))

module _ (book : Book) (task : ℕ) where
  pub why-unsound : {r : Chain} → r ≡ chained (refuse 9 0 0) [] → {held : Option (List ℕ)} → Err held ≡ judged_in book → r ≡ why_of book task
  unfolding why_of
  why-unsound q w = q ∙ rw (unsound-err book w)

  module _ {sets : List ℕ} (w : Ok sets ≡ judged_in book) where
    sound : is_sound book ≡ true
    sound = (sound-ok book w).0

    good : (is_accepted (plan_in book) && is_rule book.rule) ≡ true
    good = and_l (is_accepted (plan_in book) && is_rule book.rule) _ sound

    small : book.tasks ≤ 64
    small = few book.rule (plan_in book) good

    lawful : Lawful (plan_view book)
    lawful = plan-lawful (plan_in book) (and_l _ _ good) book.rule

    -- whoever is waited for is planned to start sooner
    says :
        (i j : ℕ) → i < book.tasks → j < book.tasks
        → (has (at sets i) j && ltb (at book.begin j) (at book.begin i)) ≡ (plan_view book).waits i j
    says i j li lj =
        let same = agree book.rule (plan_in book) good (sound-ok book w).1 i j li lj in
        by_bool ((plan_view book).waits i j)
        (λ t. and-of (same ∙ t) (lt-ltb _ _ ((lawful-falls (plan_view book) lawful).sooner i j li lj t)) ∙ sym t)
        (λ f. rw (same ∙ f) (sym f))

    pub why-sound :
        {r : Chain}
        → r ≡ chain_for (plan_by (min book.tasks 64) book sets) (seen_in book) task
        → r ≡ why_of book task
    unfolding why_of
    why-sound q =
        let l = small in
        let n : min book.tasks 64 ≡ book.tasks = omega arith in
        let q' = rw n at q in
        q'
        ∙ rw sound
        (for-alike book.tasks (at book.ready) (at book.begin) (λ i. 0) (at book.begin) (at book.finish)
        (λ i j. has (at sets i) j && ltb (at book.begin j) (at book.begin i)) (plan_view book).waits says
        book.mark book.start book.end book.dropped book.clock task)
