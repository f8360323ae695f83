-- The words of the exact figure's promises. Tasks are counted from 0, so a report names task i by i + 1.
use Rattle.std.specs.Prelude.{ℕ, ◌+◌, ◌≤◌, ◌<◌, ◌≡◌, false, cond, eqb}
use mathlib.Core.List.{List, [], ◌∷◌, Memᴰ}
use Rattle.theory.specs.Words.Events.{Event, IsReport}
use Rattle.theory.specs.Exact.{full_length}
use Rattle.plan.specs.Value.{at}
use Rattle.book_view.specs.View.{laid}
use Rattle.book.specs.View.{plan_in, plan_view, book_view}
use Rattle.book.specs.Sound.{is_sound}
use Rattle.book.specs.declared.Book.{Book}
use Rattle.book.specs.declared.Rule.{Rule}
use Rattle.book.specs.declared.Rule.TheVariants.{EarlyStart, Clash}
use Rattle.engine.specs.Timetable.{timetable_of}
use Rattle.engine.specs.declared.Lengths.{Lengths}
use Rattle.engine.specs.declared.Timetable.{Timetable}
use Rattle.promises.specs.Ladder.{Rung, ◌when◌}
use Rattle.promises.specs.Runs.{book_after, accepted_of, Started, start_of, NotBegun, AllInRange}

abbrev pub exact_checks : Book → List Rung
exact_checks book = 9 when (is_sound book ≡ false) ∷ []

-- reports, and no drops
abbrev pub AllReports : List Event → Type 0
AllReports events = (event : Event) → Memᴰ event events → IsReport event

-- each task not started at the book's clock that has started in a later one did so at least so many ticks early
abbrev pub EarlyIn : Book → ℕ → Book → Type 0
EarlyIn book early later =
    (i : ℕ) → i < book.tasks → NotBegun book i → Started later i → start_of later i + early ≤ at book.begin i

-- a figure that is true: in every later sequence of reports without further drops
abbrev pub IsTrue : Book → ℕ → Type 0
IsTrue book early = (events : List Event) → AllReports events → EarlyIn book early (book_after book events)

-- some accepted sequence of reports starts a task exactly that early
pub record Exactly (book : Book) (early : ℕ) : Type 0 where
  pub events : List Event
  pub each_accepted : accepted_of book events ≡ events
  pub reports : AllReports events
  pub in_range : AllInRange events
  pub who : ℕ
  pub task : who < book.tasks
  pub not_begun : NotBegun book who
  pub starts : Started (book_after book events) who
  pub early_is : start_of (book_after book events) who + early ≡ at book.begin who

-- what P4's engine is handed: every running and waiting task takes its full length, dropped ones none
abbrev pub full_lengths : Book → Lengths
full_lengths book =
    record { length = laid book.tasks (full_length (plan_view book) (book_view book)); dropped = book.dropped }

abbrev pub rule_of : Book → Rule
rule_of book = cond (eqb book.rule 0) EarlyStart Clash

-- and what it gives
abbrev pub full_timetable : Book → Timetable
full_timetable book = timetable_of (plan_in book) (rule_of book) (full_lengths book)
