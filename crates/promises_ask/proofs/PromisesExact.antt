-- P13. The largest figure that is still true. Tasks are counted from 0: a report names task i by i + 1.
use Prim.Native.Nat.{ℕ, ◌-◌, ◌≤◌, ◌<◌}
use mathlib.Core.Path.{◌≡◌}
use mathlib.Core.Logic.{◌↔◌}
use mathlib.Core.Bool.{true, false}
use mathlib.Core.List.{List}
use mathlib.Core.Option.{none}
use Rattle.theory.specs.Words.Events.{Event}
use Rattle.theory.specs.Exact.{exact_early, step_early}
use Rattle.theory.proofs.OneStep as one-step
use Rattle.plan.specs.Answer.{refuse, granted}
use Rattle.plan.specs.Value.{at}
use Rattle.book.specs.View.{plan_view, book_view}
use Rattle.book.specs.Sound.{is_sound}
use Rattle.book.specs.Early.{figure_of}
use Rattle.book.specs.declared.Book.{Book}
use Rattle.ask_exact.specs.Shown.{shown}
use Rattle.ask_exact.specs.Figure.{answered, exact_of}
use Rattle.promises.specs.Ladder.{Ladder}
use Rattle.promises.specs.Runs.{Sized, book_after, NotBegun, Started, Ended, start_of, end_of}
use Rattle.promises_ask.specs.Exact.{exact_checks, EarlyIn, IsTrue, Exactly, full_timetable}
use Rattle.promises_ask.proofs.Shown as shows
use Rattle.promises_ask.proofs.Engine as engine
use Rattle.promises_ask.proofs.Runs as runs

module _ (book : Book) where
  -- Refusals: 9
  pub exact-checks : Ladder (exact_checks book) (exact_of book).answer.code
  exact-checks = shows.checks book

  -- with "none"
  pub refused_none : is_sound book ≡ false → exact_of book ≡ answered (refuse 9 0 0) (shown none)
  refused_none = shows.refused book

  module _ (sound : is_sound book ≡ true) where
    -- P4's engine never refuses the full lengths and the book's drops
    pub engine-takes : (full_timetable book).answer ≡ granted
    engine-takes = engine.engine-takes book sound

    -- its timetable keeps every start and end that the book knows
    pub keeps-starts : (i : ℕ) → i < book.tasks → Started book i → at (full_timetable book).start i ≡ start_of book i
    keeps-starts i l s = engine.starts-kept book sound i l s

    pub keeps-ends : (i : ℕ) → i < book.tasks → Ended book i → at (full_timetable book).end i ≡ end_of book i
    keeps-ends i l e = engine.ends-kept book sound i l e

    -- with no task that has not started at the clock, the answer is "none", and only then
    pub none-exactly : ((exact_of book).known ≡ false) ↔ ((i : ℕ) → i < book.tasks → NotBegun book i → ⊥)
    none-exactly = shows.none_is book sound

    -- one step from the started tasks gives the same figure
    pub one-figure : exact_early (plan_view book) (book_view book) ≡ step_early (plan_view book) (book_view book)
    one-figure = one-step.one-figure (plan_view book) (shows.lawful book sound) (book_view book) (shows.sound-facts book sound).sound

  module _ (known : (exact_of book).known ≡ true) where
    -- the least planned start − start over tasks not started at the clock, by that timetable
    pub exact-under :
        (i : ℕ) → i < book.tasks → NotBegun book i → (exact_of book).early ≤ at book.begin i - at (full_timetable book).start i
    exact-under = engine.exact-under book known

    pub exact-met :
        (i : ℕ) × (i < book.tasks) × NotBegun book i × ((exact_of book).early ≡ at book.begin i - at (full_timetable book).start i)
    exact-met = engine.exact-met book known

    module _ (size : Sized book) where
      -- in every later sequence of reports each such task that starts does so at least that early; with further drops too
      pub exact-kept : (events : List Event) → EarlyIn book (exact_of book).early (book_after book events)
      exact-kept = runs.kept book size known

      -- M never exceeds it
      pub figure-under : (figure_of book).early ≤ (exact_of book).early
      figure-under = runs.figure-under book size known

      -- some accepted sequence starts a task exactly that early
      pub exactly-so-early : Exactly book (exact_of book).early
      exactly-so-early = runs.met book size known

      -- so the figures that are true are those up to it: no larger one is
      pub true-exactly : (early : ℕ) → IsTrue book early ↔ (early ≤ (exact_of book).early)
      true-exactly = runs.true-exactly book size known
