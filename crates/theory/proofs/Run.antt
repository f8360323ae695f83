-- A run goes event by event, reports and drops: an accepted one leads on to the next book, a refused one is as if not made.
use mathlib.Core.Path.{◌≡◌, refl, ap, ◌∙◌}
use mathlib.Core.Logic.{◌≢◌}
use mathlib.Core.List.Memᴰ
use mathlib.Core.List.{List, [], ◌∷◌, Memᴰ}
use borrow.Author.Tests.{eq-eqb, ne_eqb}
use Rattle.theory.specs.Plan.{Plan}
use Rattle.theory.specs.Book.{Book}
use Rattle.theory.specs.Words.Events.{Event}
use Rattle.theory.proofs.Facts.{event_code, step_to, run, accepted}
use Rattle.theory.proofs.Reflect.{after-taken, after-refused}

pub run_none : (plan : Plan) (book : Book) → run plan book [] ≡ book
unfolding run
run_none plan book = refl

pub accepted-none : (plan : Plan) (book : Book) → accepted plan book [] ≡ []
unfolding accepted
accepted-none plan book = refl

pub none-accepted : (plan : Plan) (book : Book) (event : Event) → Memᴰ event (accepted plan book []) → ⊥
unfolding accepted
none-accepted plan book event m = Memᴰ.not-nil m

module _ (plan : Plan) (book : Book) (event : Event) (rest : List Event) where
  pub run-taken : event_code plan book event ≡ 0 → run plan book (event ∷ rest) ≡ run plan (step_to plan book event) rest
  unfolding run
  run-taken z = rw (after-taken plan book event z)

  pub run-refused : event_code plan book event ≢ 0 → run plan book (event ∷ rest) ≡ run plan book rest
  unfolding run
  run-refused n = rw (after-refused plan book event n)

  pub accepted-taken :
      event_code plan book event ≡ 0 → accepted plan book (event ∷ rest) ≡ event ∷ accepted plan (step_to plan book event) rest
  unfolding accepted
  accepted-taken z = rw (eq-eqb (event_code plan book event) 0 z, after-taken plan book event z)

  pub accepted-refused : event_code plan book event ≢ 0 → accepted plan book (event ∷ rest) ≡ accepted plan book rest
  unfolding accepted
  accepted-refused n = rw (ne_eqb (event_code plan book event) 0 n, after-refused plan book event n)

-- reports and drops, each accepted, that lead from one book to another
pub record Way (plan : Plan) (book target : Book) : Type 0 where
  pub events : List Event
  pub each_accepted : accepted plan book events ≡ events
  pub leads : run plan book events ≡ target

unfoldable pub way-none : (plan : Plan) (book : Book) → Way plan book book
way-none plan book = record { events = []; each_accepted = accepted-none plan book; leads = run_none plan book }

unfoldable pub way-more :
    (plan : Plan) (book target : Book) (event : Event) → event_code plan book event ≡ 0
    → Way plan (step_to plan book event) target → Way plan book target
way-more plan book target event z way = record {
  events = event ∷ way.events;
  each_accepted =
      accepted-taken plan book event way.events z ∙ ap (λ (es : List Event). event ∷ es) way.each_accepted;
  leads = run-taken plan book event way.events z ∙ way.leads;
}
