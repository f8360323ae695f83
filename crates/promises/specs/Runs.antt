-- The words of the promises: reports and drops on a book, and what a book says of a task.
-- Tasks are counted from 0 here, so a report or drop names task i by i + 1.
use Rattle.std.specs.Prelude.{ℕ, ◌+◌, ◌-◌, ◌≤◌, ◌<◌, max, ◌≡◌, ◌≢◌, ◌↔◌, true, cond}
use mathlib.Core.List.{List, [], ◌∷◌, Memᴰ}
use Rattle.theory.specs.Words.Events.{Event, IsReport}
use Rattle.theory.specs.Book as theory-book
use Rattle.plan.specs.Answer.{granted, is_granted}
use Rattle.plan.specs.Value.{at, is_accepted}
use Rattle.plan.specs.declared.Plan.{Plan}
use Rattle.book.specs.View.{plan_view, book_view}
use Rattle.book.specs.Open.{opening_of}
use Rattle.book.specs.Report.{reported_of}
use Rattle.book.specs.Words.Event.{answer_to, book_told}
use Rattle.book.specs.declared.Book.{Book}
use Rattle.book.specs.declared.Rule.{Rule}
-- the arrays have their lengths
pub use Rattle.book.specs.Words.Sized.{SizedPlan, Sized}

-- the book opened on a plan by a rule
abbrev pub opened_book : Plan → Rule → Book
opened_book plan rule = (opening_of plan rule).book

-- the book that reports and drops leave, refused ones among them
unfoldable pub book_after : Book → List Event → Book
book_after book [] = book
book_after book (event ∷ later) = book_after (book_told book event) later

-- the accepted ones of a list of reports and drops
unfoldable pub accepted_of : Book → List Event → List Event
accepted_of book [] = []
accepted_of book (event ∷ later) =
    let rest = accepted_of (book_told book event) later in cond (is_granted (answer_to book event)) (event ∷ rest) rest

-- the same reports and drops, in whatever order
abbrev pub SameEvents : List Event → List Event → Type 0
SameEvents these those = (event : Event) → Memᴰ event these ↔ Memᴰ event those

-- what a book says of task i
abbrev pub Waiting : Book → ℕ → Type 0
Waiting book i = at book.mark i ≡ 0

abbrev pub Running : Book → ℕ → Type 0
Running book i = at book.mark i ≡ 1

abbrev pub Ended : Book → ℕ → Type 0
Ended book i = at book.mark i ≡ 2

abbrev pub Started : Book → ℕ → Type 0
Started book i = at book.mark i ≢ 0

abbrev pub Dropped : Book → ℕ → Type 0
Dropped book i = at book.dropped i ≡ 1

abbrev pub start_of : Book → ℕ → ℕ
start_of book i = at book.start i

abbrev pub end_of : Book → ℕ → ℕ
end_of book i = at book.end i

-- the clock has not reached its start, known or not
abbrev pub NotBegun : Book → ℕ → Type 0
NotBegun book i = Started book i → book.clock < start_of book i

-- its limit is its start + length
abbrev pub limit_of : Book → ℕ → ℕ
limit_of book i = theory-book.limit (plan_view book) (book_view book) i

-- task i waits for task j: j is in its wait set by the book's rule
abbrev pub WaitsFor : Book → ℕ → ℕ → Type 0
WaitsFor book i j = (plan_view book).waits i j ≡ true

-- the latest of the ends of those it waits for, 0 where it waits for nobody
abbrev pub due_of : Book → ℕ → ℕ
due_of book i = theory-book.due (plan_view book) (at book.end) i

-- the later of its ready tick and the latest of these ends
abbrev pub start_due_of : Book → ℕ → ℕ
start_due_of book i = max (at book.ready i) (due_of book i)

abbrev pub AllEnded : Book → ℕ → Type 0
AllEnded book i = (j : ℕ) → j < book.tasks → WaitsFor book i j → Ended book j

-- a stands before b in the plan, and in the book
pub record InOrder (plan : Plan) (book : Book) (a b : ℕ) : Type 0 where
  pub planned : at plan.finish a ≤ at plan.begin b
  pub over : Started book b → Ended book a
  pub after : Started book b → end_of book a ≤ start_of book b

-- task i's token is live at a tick: it has started by then, and not yet ended
pub record Live (book : Book) (tick i : ℕ) : Type 0 where
  pub started : Started book i
  pub from : start_of book i ≤ tick
  pub to : Ended book i → tick < end_of book i

-- so many ticks early against the plan
pub record EarlyBy (plan : Plan) (early : ℕ) (book : Book) (i : ℕ) : Type 0 where
  pub starts : Started book i → start_of book i + early ≤ at plan.begin i
  pub ends : Ended book i → end_of book i + early ≤ at plan.finish i

-- a term of M: planned start − start of a task that runs and whose start the clock has reached; planned start − ready of one,
-- not dropped, whose start is not known or lies after the clock
pub data Term (book : Book) (i early : ℕ) : Type 0 where
  begun : Running book i → start_of book i ≤ book.clock → early ≡ at book.begin i - start_of book i → Term book i early
  not_begun : (Dropped book i → ⊥) → NotBegun book i → early ≡ at book.begin i - at book.ready i → Term book i early

-- a plan's opened book after reports and drops
abbrev pub run_of : Plan → Rule → List Event → Book
run_of plan rule events = book_after (opened_book plan rule) events

-- a task that waited starts when all it waits for have ended, at the later of its ready tick and this tick; a dropped one starts
-- and ends at this tick
pub record StartsExactly (tick : ℕ) (after : Book) (i : ℕ) : Type 0 where
  pub when_free : Started after i ↔ AllEnded after i
  pub at_tick : Started after i → (Dropped after i → ⊥) → start_of after i ≡ max (at after.ready i) tick
  pub runs : Started after i → (Dropped after i → ⊥) → Running after i
  pub skips : Started after i → Dropped after i → Ended after i × (end_of after i ≡ tick) × (start_of after i ≡ tick)

-- a task and a tick that can be handed to the functions
abbrev pub InRange : Event → Type 0
InRange (Event.ends task tick) = (task ≤ 64) × (tick ≤ 1000000)
InRange (Event.drops task) = task ≤ 64

abbrev pub AllInRange : List Event → Type 0
AllInRange events = (event : Event) → Memᴰ event events → InRange event

-- a running task of least limit, accepted at its limit
pub record Progress (book : Book) : Type 0 where
  pub who : ℕ
  pub task : who < book.tasks
  pub runs : Running book who
  pub least : (j : ℕ) → j < book.tasks → Running book j → limit_of book who ≤ limit_of book j
  pub taken : (reported_of book (who + 1) (limit_of book who)).answer ≡ granted
  pub in_range : InRange (Event.ends (who + 1) (limit_of book who))

-- accepted reports after which every task has ended
pub record Finishes (book : Book) : Type 0 where
  pub events : List Event
  pub each_accepted : accepted_of book events ≡ events
  pub reports : (event : Event) → Memᴰ event events → IsReport event
  pub in_range : AllInRange events
  pub all_ended : (i : ℕ) → i < book.tasks → Ended (book_after book events) i

-- what accepted reports and drops make of an accepted plan's book, opened by a rule
pub record Reached (book : Book) : Type 0 where
  pub plan : Plan
  pub rule : Rule
  pub sized : SizedPlan plan
  pub accepted : is_accepted plan ≡ true
  pub events : List Event
  pub each_accepted : accepted_of (opened_book plan rule) events ≡ events
  pub in_range : AllInRange events
  pub leads : run_of plan rule events ≡ book
