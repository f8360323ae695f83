-- A book: who waits, runs or has ended, since when and at what tick; and when it is sound.
use Rattle.std.specs.Prelude.{Bool, not, cond, ◌&&◌, ℕ, ◌+◌, ◌-◌, max, leb, ltb, eqb}
use Rattle.laws.specs.Every.{implies, every, any}
use Rattle.laws.specs.Picked.{latest}
use Rattle.theory.specs.Plan.{Plan}

-- mark: 0 waiting, 1 running, 2 ended; dropped: 1 for a dropped task, 0 for any other
pub record Book : Type 0 where
  pub mark : ℕ → ℕ
  pub start : ℕ → ℕ
  pub end : ℕ → ℕ
  pub dropped : ℕ → ℕ
  pub clock : ℕ

-- the book of these parts
abbrev pub book_of : (ℕ → ℕ) → (ℕ → ℕ) → (ℕ → ℕ) → (ℕ → ℕ) → ℕ → Book
book_of mark start end dropped clock = record { mark = mark; start = start; end = end; dropped = dropped; clock = clock }

abbrev pub waiting : (ℕ → ℕ) → ℕ → Bool
waiting mark i = eqb (mark i) 0

abbrev pub running : (ℕ → ℕ) → ℕ → Bool
running mark i = eqb (mark i) 1

abbrev pub ended : (ℕ → ℕ) → ℕ → Bool
ended mark i = eqb (mark i) 2

abbrev pub is_dropped : (ℕ → ℕ) → ℕ → Bool
is_dropped dropped i = eqb (dropped i) 1

-- its limit is its start + length; the length of a task is planned finish − planned start
abbrev pub limit : Plan → Book → ℕ → ℕ
limit plan book i = book.start i + (plan.finish i - plan.begin i)

-- all it waits for have ended
unfoldable pub all_ended : Plan → (ℕ → ℕ) → ℕ → Bool
all_ended plan mark i = every plan.tasks (λ j. implies (plan.waits i j) (ended mark j))

-- the latest of their ends; 0 where it waits for nobody
abbrev pub due : Plan → (ℕ → ℕ) → ℕ → ℕ
due plan end i = latest plan.tasks (plan.waits i) end

-- A task starts at the later of its ready tick and the latest end of those it waits for; waiting for nobody, at its ready tick
abbrev pub ready_due : Plan → (ℕ → ℕ) → ℕ → ℕ
ready_due plan end i = max (plan.ready i) (due plan end i)

-- the clock is the greatest end, or 0
abbrev pub last_end : Plan → Book → ℕ
last_end plan book = latest plan.tasks (ended book.mark) book.end

-- what a sound book says of one task, as a test
abbrev pub waiting_ok : Plan → Book → ℕ → Bool
waiting_ok plan book i = not (all_ended plan book.mark i) && (eqb (book.start i) 0 && eqb (book.end i) 0)

-- whose start is known: all it waits for have ended, its start is the tick, and more
abbrev pub started_ok : Plan → Book → ℕ → ℕ → Bool → Bool
started_ok plan book i tick more = all_ended plan book.mark i && (eqb (book.start i) tick && more)

-- a task runs from when its start is known, even if it lies past the clock
abbrev pub running_ok : Plan → Book → ℕ → ℕ → Bool
running_ok plan book i tick =
    eqb (book.dropped i) 0 && started_ok plan book i tick (eqb (book.end i) 0 && leb book.clock (limit plan book i))

abbrev pub ended_ok : Plan → Book → ℕ → ℕ → Bool
ended_ok plan book i tick =
    eqb (book.dropped i) 0
    && started_ok plan book i tick
    (ltb (book.start i) (book.end i) && (leb (book.end i) (limit plan book i) && leb (book.end i) book.clock))

-- a dropped task is one that waits for somebody, and once its start is known it has ended, its end being its start;
-- its ready tick is ignored
abbrev pub skipped_ok : Plan → Book → ℕ → Bool
skipped_ok plan book i =
    any plan.tasks (plan.waits i)
    && started_ok plan book i (due plan book.end i) (eqb (book.end i) (book.start i) && leb (book.end i) book.clock)

-- a task has a mark of the three, and is dropped or not; if not, it starts at the tick
abbrev pub task_from : Plan → Book → ℕ → ℕ → Bool
task_from plan book i tick =
    leb (book.dropped i) 1
    && cond (waiting book.mark i) (waiting_ok plan book i)
    (cond (running book.mark i) (running_ok plan book i tick)
    (ended book.mark i && cond (is_dropped book.dropped i) (skipped_ok plan book i) (ended_ok plan book i tick)))

unfoldable pub task_test : Plan → Book → ℕ → Bool
task_test plan book i = task_from plan book i (ready_due plan book.end i)

-- A book is sound when each task is and the clock is the greatest end, or 0
unfoldable pub sound_test : Plan → Book → Bool
sound_test plan book = every plan.tasks (task_test plan book) && eqb book.clock (last_end plan book)
