-- When a book is sound, whatever its arrays hold.
use Rattle.std.specs.Prelude.{ℕ, Bool, ◌&&◌, List, Option, Result}
use Rattle.plan.specs.Value.{is_accepted}
use Rattle.book_view.specs.View.{is_rule}
use Rattle.book_sound.specs.Sound.{sound_on, sound_waits}
use Rattle.book.specs.View.{plan_in, plan_view}
use Rattle.book.specs.declared.Book.{Book}

-- its plan is accepted, its rule is one of the two, and by that rule the rest is sound
abbrev pub is_sound : Book → Bool
is_sound book =
    (is_accepted (plan_in book) && is_rule book.rule)
    && sound_on (plan_view book) book.mark book.start book.end book.dropped book.clock

-- the wait sets by its rule, as a refusal where it is not sound
abbrev pub judged_in : Book → Result (List ℕ) (Option (List ℕ))
judged_in book = sound_waits book.rule (plan_in book) book.mark book.start book.end book.dropped book.clock
