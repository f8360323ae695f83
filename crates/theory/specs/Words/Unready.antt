-- The rule without ready ticks, of edition 1: a start is the latest end alone, and M is of those that run alone.
use Rattle.std.specs.Prelude.{Bool, ◌&&◌, ℕ, ◌-◌, eqb}
use Rattle.std.proofs.Math.Option.{get_or}
use Rattle.laws.specs.Every.{every}
use Rattle.laws.specs.Picked.{least}
use Rattle.theory.specs.Plan.{Plan}
use Rattle.theory.specs.Book.{Book, book_of, running, due, last_end, task_from}
use Rattle.theory.specs.Report.{put, goes, end_it, skip_times, blank}

-- whoever may go starts at the clock
abbrev pub plain_let_go : Plan → Book → Book
plain_let_go plan book =
    let going = put (goes plan book) in
    book_of (going 1 book.mark) (going book.clock book.start) book.end book.dropped book.clock

-- A task that waits for nobody starts at tick 0
unfoldable pub plain_opened : Plan → Book
plain_opened plan = plain_let_go plan blank

unfoldable pub plain_next : Plan → Book → ℕ → ℕ → Book
plain_next plan book k tick = plain_let_go plan (skip_times plan.tasks plan (end_it book k tick))

-- a sound book: its start is the latest of the ends of those it waits for
unfoldable pub plain_sound : Plan → Book → Bool
plain_sound plan book =
    every plan.tasks (λ i. task_from plan book i (due plan book.end i)) && eqb book.clock (last_end plan book)

-- M is the least of planned start − start over the tasks running at that moment, and 0 if none runs
unfoldable pub plain_early : Plan → Book → ℕ
plain_early plan book = get_or (least plan.tasks (running book.mark) (λ i. plan.begin i - book.start i)) 0
