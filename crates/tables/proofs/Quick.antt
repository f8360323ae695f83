-- The books of a run are sound, so a walk is computed by the codes and the figure alone, without judging the book again at each step.
use mathlib.Core.Bool.{Bool, true, ◌&&◌}
use mathlib.Core.List.{List, [], ◌∷◌}
use mathlib.Core.Path.{◌≡◌, refl, ap}
use lib.Dec.{eqb}
use borrow.Author.Tests.{eq-eqb, ne_eqb}
use Rattle.laws.specs.Lists.{all_of}
use Rattle.laws.proofs.Cases.{by-eq, and_l, and_r, and-of}
use Rattle.theory.specs.Words.Events.{Event}
use Rattle.theory.specs.Figure.{minimum_early}
use Rattle.plan.specs.Value.{is_accepted}
use Rattle.plan.specs.declared.Plan.{Plan}
use Rattle.book.specs.View.{plan_view, book_view}
use Rattle.book.specs.Sound.{is_sound}
use Rattle.book.specs.Words.Event.{book_told}
use Rattle.book.specs.declared.Book.{Book}
use Rattle.book.specs.declared.Rule.{Rule}
use Rattle.book.proofs.Reports.{code_in, step_in, Told, told}
use Rattle.promises.specs.Runs.{SizedPlan, opened_book}
use Rattle.promises.proofs.RunView.{Good, good-event, answer-code, opened-good}
use Rattle.promises.proofs.Figures.{early_is}
use Rattle.tables.specs.Walk.{Step, walk, walked_on}

unfoldable pub quick : Book → List Step → Bool
quick book [] = true
quick book (Step.told event ∷ later) = eqb (code_in book event) 0 && quick (step_in book event) later
quick book (Step.gives event code ∷ later) = eqb (code_in book event) code && quick book later
quick book (Step.shows early ∷ later) = eqb (minimum_early (plan_view book) (book_view book)) early && quick book later
quick book (Step.asks holds ∷ later) = holds book && quick book later

taken-book : (book : Book) → is_sound book ≡ true → (event : Event) → code_in book event ≡ 0 → book_told book event ≡ step_in book event
taken-book book sound event z = go (told book sound event)
  where
    go : Told book event (book_told book event) → book_told book event ≡ step_in book event
    go (Told.taken y e) = e
    go (Told.refused n e) = absurd (n z)

quick-is : (book : Book) → Good book → (steps : List Step) → walk book steps ≡ quick book steps
unfolding walk quick
quick-is book g [] = refl
quick-is book g (Step.told event ∷ later) =
    by-eq (code_in book event) 0
    (λ z.
    let e = taken-book book g.sound event z in
    rw (answer-code book g.sound event, e, eq-eqb (code_in book event) 0 z)
    (quick-is (step_in book event) (rw e at (good-event book event g)) later))
    (λ n. rw (answer-code book g.sound event, ne_eqb (code_in book event) 0 n))
quick-is book g (Step.gives event code ∷ later) =
    rw (answer-code book g.sound event) (ap (λ (x : Bool). eqb (code_in book event) code && x) (quick-is book g later))
quick-is book g (Step.shows early ∷ later) =
    rw (early_is book g) (ap (λ (x : Bool). eqb (minimum_early (plan_view book) (book_view book)) early && x) (quick-is book g later))
quick-is book g (Step.asks holds ∷ later) = ap (λ (x : Bool). holds book && x) (quick-is book g later)

module _ (plan : Plan) (rule : Rule) (size : SizedPlan plan) (ok : is_accepted plan ≡ true) where
  pub walked : (steps : List Step) → quick (opened_book plan rule) steps ≡ true → walk (opened_book plan rule) steps ≡ true
  walked steps h = rw (quick-is (opened_book plan rule) (opened-good plan rule ok size) steps) h

  pub all-walked : (walks : List (List Step)) → all_of (quick (opened_book plan rule)) walks ≡ true → walked_on plan rule walks ≡ true
  unfolding all_of
  all-walked [] h = refl
  all-walked (steps ∷ walks) h =
      let first = quick (opened_book plan rule) steps in
      let rest = all_of (quick (opened_book plan rule)) walks in
      and-of (walked steps (and_l first rest h)) (all-walked walks (and_r first rest h))
