-- The figure of a book by its wait sets is the exact figure.
use Prim.Native.Nat.{ℕ, ◌-◌, max}
use mathlib.Core.Bool.{true, false, not, cond}
use mathlib.Core.Option.{none, some}
use mathlib.Core.Option as math
use mathlib.Core.Path.{◌≡◌, refl, sym, ap, ◌∙◌}
use mathlib.Core.List.{List}
use Rattle.std.specs.Prelude.{Option, Some, None, Ok, Err}
use borrow.Author.Tests.{not-true, not-false}
use Rattle.laws.proofs.Cases.{and_l}
use Rattle.laws.proofs.Latest.{latest-same}
use Rattle.laws.proofs.Least.{least-same}
use Rattle.theory.specs.Book.{is_dropped}
use Rattle.theory.specs.Exact.{step_early}
use Rattle.theory.proofs.OneStep.{one-figure}
use Rattle.plan.specs.Answer.{refuse, granted}
use Rattle.plan.specs.declared.Answer.{Answer}
use Rattle.book_view.proofs.Accepted.{plan-lawful}
use Rattle.book_sound.proofs.WaitLaws.{agree}
use Rattle.book.specs.View.{plan_in, plan_view, book_view}
use Rattle.book.specs.Sound.{is_sound, judged_in}
use Rattle.book.specs.declared.Book.{Book}
use Rattle.book.proofs.Soundness.{is-sound-facts}
use Rattle.book.proofs.WaitLaws.{unsound-err, sound-ok}
use Rattle.ask_exact.specs.Shown.{shown}
use Rattle.ask_exact.specs.Step.{handed, plan_by}
use Rattle.ask_exact.specs.Private.Step.{answered_by}
use Rattle.ask_exact.specs.Figure.{answered, exact_of}
use Rattle.ask_exact.specs.declared.Exact.{Exact}

-- a figure of the theory as it is answered
answered-is : (answer : Answer) (o : math.Option ℕ) → answered_by answer (handed o) ≡ answered answer (shown o)
answered-is answer none = refl
answered-is answer (some v) = refl

module _ (book : Book) where
  pub exact-refused :
      {held : Option (List ℕ)} → Err held ≡ judged_in book → {answer : Answer} → answer ≡ refuse 9 0 0 → {r : Exact} → r ≡ answered_by answer None → r ≡ exact_of book
  unfolding exact_of
  exact-refused w a q = q ∙ rw (a, unsound-err book w)

  module _ {sets : List ℕ} (w : Ok sets ≡ judged_in book) where
    sound : is_sound book ≡ true
    sound = (sound-ok book w).0

    -- the sets say what the rule says
    by-sets : step_early (plan_by book sets) (book_view book) ≡ step_early (plan_view book) (book_view book)
    unfolding step_early
    by-sets =
        least-same book.tasks _ _ _ (λ i l.
        ap (λ (x : ℕ). (plan_view book).begin i - max (cond (is_dropped (book_view book).dropped i) 0 ((plan_view book).ready i)) x)
        (latest-same book.tasks _ _ _ _ (λ j lj. agree book.rule (plan_in book) (and_l _ _ sound) (sound-ok book w).1 i j l lj) (λ j lj h. refl)))

    pub exact-granted :
        {answer : Answer} → answer ≡ granted → {figure : Option ℕ}
        → figure ≡ handed (step_early (plan_by book sets) (book_view book)) → {r : Exact} → r ≡ answered_by answer figure → r ≡ exact_of book
    unfolding exact_of
    exact-granted a f q =
        let facts = (is-sound-facts book).0 sound in
        let one = one-figure (plan_view book) (plan-lawful (plan_in book) facts.accepted book.rule) (book_view book) facts.sound in
        q ∙ rw (sound, a, f, by-sets, one) (answered-is granted _)
