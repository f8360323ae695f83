-- A sound book as facts, and that reports, drops and opening give sound books.
use Prim.Native.Nat.{ℕ}
use mathlib.Core.Bool.{true, ◌&&◌}
use mathlib.Core.Path.{◌≡◌, refl}
use mathlib.Core.Logic.{◌↔◌}
use Rattle.laws.proofs.Cases.{and_l, and_r, and-of}
use Rattle.theory.specs.Book as theory-book
use Rattle.theory.specs.Words.Events.{Accepts, AcceptsDrop}
use Rattle.theory.proofs.Facts.{Sound}
use Rattle.theory.proofs.Past.{past_next, past-drop}
use Rattle.theory.proofs.Reflect.{sound-test}
use Rattle.theory.proofs.Step.{sound-next, sound-drop, sound-opened}
use Rattle.plan.specs.Value.{is_accepted}
use Rattle.plan.specs.declared.Plan.{Plan}
use Rattle.book_view.specs.View.{is_rule, plan_for}
use Rattle.book_view.proofs.Accepted.{plan-facts}
use Rattle.book_sound.specs.Sound.{sound_on}
use Rattle.book.specs.View.{plan_in, plan_view, book_view, lay_out}
use Rattle.book.specs.Sound.{is_sound}
use Rattle.book.specs.Open.{rule_number, opened_on}
use Rattle.book.specs.Report.{next_book}
use Rattle.book.specs.Drop.{dropped_in}
use Rattle.book.specs.Private.Table.{Past}
use Rattle.book.specs.declared.Book.{Book}
use Rattle.book.specs.declared.Rule.{Rule}
use Rattle.book.specs.declared.Rule.TheVariants.{EarlyStart, Clash}
use Rattle.book.proofs.Views.{past_by, past-book, past_of-opened, view-laid, nothing-past-laid}

pub record SoundFacts (book : Book) : Type 0 where
  pub accepted : is_accepted (plan_in book) ≡ true
  pub rule : is_rule book.rule ≡ true
  pub sound : Sound (plan_view book) (book_view book)
  pub past : Past book.tasks (book_view book)

pub is-sound-facts : (book : Book) → (is_sound book ≡ true) ↔ SoundFacts book
unfolding sound_on
is-sound-facts book = (
  λ h.
      let good = and_l (is_accepted (plan_in book) && is_rule book.rule) _ h in
      let rest = and_r (is_accepted (plan_in book) && is_rule book.rule) _ h in
      record {
        accepted = and_l _ _ good;
        rule = and_r (is_accepted (plan_in book)) _ good;
        sound = (sound-test (plan_view book) (book_view book)).1 (and_l _ _ rest);
        past = (past-book book).0 (and_r (theory-book.sound_test (plan_view book) (book_view book)) _ rest);
      },
  λ f.
      and-of (and-of f.accepted f.rule)
      (and-of ((sound-test (plan_view book) (book_view book)).0 f.sound) ((past-book book).1 f.past)),
)

-- a sound book of the theory, laid out on an accepted plan, is sound
laid-is-sound :
    (rule : ℕ) (plan : Plan) (seen : theory-book.Book) → is_rule rule ≡ true → is_accepted plan ≡ true → Past plan.tasks seen
    → Sound (plan_for rule plan) seen → is_sound (lay_out rule plan seen) ≡ true
unfolding lay_out
laid-is-sound rule plan seen known ok past sound =
    (is-sound-facts (lay_out rule plan seen)).1
    (record {
      accepted = ok;
      rule = known;
      sound = in-view;
      past = nothing-past-laid rule plan seen;
    })
  where
    in-view : Sound (plan_for rule plan) (book_view (lay_out rule plan seen))
    in-view = rw (view-laid rule plan (plan-facts plan ok).tasks-to seen past) sound

module _ (book : Book) (h : is_sound book ≡ true) where
  facts : SoundFacts book
  facts = (is-sound-facts book).0 h

  pub next-is-sound :
      (k tick : ℕ) → Accepts (plan_view book) (book_view book) k tick → is_sound (next_book book k tick) ≡ true
  unfolding next_book
  next-is-sound k tick ok =
      laid-is-sound book.rule (plan_in book) _ facts.rule facts.accepted
      (past_by (plan_view book) _ _ (past_next (plan_view book) (book_view book) k tick ok.task) facts.past)
      (sound-next (plan_view book) (book_view book) k tick ok facts.sound)

  pub dropped-is-sound : (k : ℕ) → AcceptsDrop (plan_view book) (book_view book) k → is_sound (dropped_in book k) ≡ true
  unfolding dropped_in
  dropped-is-sound k ok =
      laid-is-sound book.rule (plan_in book) _ facts.rule facts.accepted
      (past_by (plan_view book) _ _ (past-drop (plan_view book) (book_view book) k ok.task) facts.past)
      (sound-drop (plan_view book) (book_view book) k ok facts.sound)

-- each of the two has a number
pub number-is-rule : (rule : Rule) → is_rule (rule_number rule) ≡ true
number-is-rule EarlyStart = refl
number-is-rule Clash = refl

pub opened-is-sound : (plan : Plan) (rule : Rule) → is_accepted plan ≡ true → is_sound (opened_on plan rule) ≡ true
unfolding opened_on
opened-is-sound plan rule h =
    laid-is-sound (rule_number rule) plan _ (number-is-rule rule) h (past_of-opened (rule_number rule) plan) (sound-opened (plan_for (rule_number rule) plan))
