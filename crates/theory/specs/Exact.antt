-- The exact figure: the largest that is still true.
use Rattle.std.specs.Prelude.{Bool, cond, ◌||◌, ℕ, ◌-◌, max, ltb}
use Rattle.std.proofs.Math.Option.{Option}
use Rattle.laws.specs.Picked.{latest, least}
use Rattle.theory.specs.Plan.{Plan}
use Rattle.theory.specs.Book.{Book, waiting, ended, is_dropped, limit}
use Rattle.theory.specs.Times.{start_time}

-- not started at the clock: it waits, or its known start lies past the clock
abbrev pub not_started : Book → ℕ → Bool
not_started book i = waiting book.mark i || ltb book.clock (book.start i)

-- every running and waiting task takes its full length; an ended one took end − start
abbrev pub full_length : Plan → Book → ℕ → ℕ
full_length plan book i = cond (ended book.mark i) (book.end i - book.start i) (plan.finish i - plan.begin i)

-- when a task starts in P4's timetable of these lengths, with the book's drops
abbrev pub full_start : Plan → Book → ℕ → ℕ
full_start plan book = start_time plan (full_length plan book) book.dropped

-- the least planned start − start over the tasks not started at the clock; with none such, none
unfoldable pub exact_early : Plan → Book → Option ℕ
exact_early plan book = least plan.tasks (not_started book) (λ i. plan.begin i - full_start plan book i)

-- the end of an ended task and the limit of a running one; 0 where it has not started at the clock
abbrev pub latest_end : Plan → Book → ℕ → ℕ
latest_end plan book j = cond (not_started book j) 0 (cond (ended book.mark j) (book.end j) (limit plan book j))

-- the latest of its ready tick, not of a dropped one, and the ends or limits of the started tasks that it waits for
abbrev pub step_start : Plan → Book → ℕ → ℕ
step_start plan book i =
    max (cond (is_dropped book.dropped i) 0 (plan.ready i)) (latest plan.tasks (plan.waits i) (latest_end plan book))

-- the same figure in one step, without running ahead
unfoldable pub step_early : Plan → Book → Option ℕ
step_early plan book = least plan.tasks (not_started book) (λ i. plan.begin i - step_start plan book i)
