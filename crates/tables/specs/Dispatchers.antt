-- Dispatchers that are not ours, each a step from book to book; demand 2's sentences of any such step; and what the steps of
-- document 01's impostors and shortcuts do on small plans.
use Rattle.std.specs.Prelude.{ℕ, zero, suc, ◌-◌, ◌<◌, ◌≡◌, ◌↔◌, Bool, true, not, cond, ◌&&◌, ◌||◌, List, [], ◌∷◌, ltb, eqb, set}
use Rattle.laws.specs.Every.{every}
use Rattle.text.specs.Bytes.{bytes}
use Rattle.plan.specs.Pairs.{same_board, clash_by_drive}
use Rattle.plan.specs.Value.{at, task_at, is_accepted}
use Rattle.plan.specs.Read.{reading_of}
use Rattle.plan.specs.declared.Plan.{Plan}
use Rattle.theory.specs.Plan as theory-plan
use Rattle.theory.specs.Book.{running, waiting}
use Rattle.theory.specs.Report.{goes}
use Rattle.theory.specs.Words.Events.{Event}
use Rattle.book.specs.View.{plan_in, plan_view, book_view}
use Rattle.book.specs.Sound.{is_sound}
use Rattle.book.specs.Words.Event.{answer_to, book_told}
use Rattle.book.specs.declared.Book.{Book}
use Rattle.book.specs.declared.Rule.{Rule}
use Rattle.promises.specs.Runs.{SizedPlan, Sized, opened_book, Waiting, Started, AllEnded, StartsExactly}
use Rattle.tables.specs.Walk.{end}

-- the book after a report or drop; ours is `bookTold`
abbrev pub Dispatcher : Type 0
Dispatcher = Book → Event → Book

-- the book that a dispatcher has after a list of them
unfoldable pub book_by : Dispatcher → Book → List Event → Book
book_by dispatch book [] = book
book_by dispatch book (event ∷ later) = book_by dispatch (dispatch book event) later

-- demand 2 of a dispatcher, as `starts-exactly` has it: by an accepted report a waiting task starts exactly when all it waits for
-- have ended after it, at the later of its ready tick and the tick
abbrev pub StartsWhenFree : Dispatcher → Type 0
StartsWhenFree dispatch =
    (book : Book) → Sized book → is_sound book ≡ true → (task tick : ℕ) → (answer_to book (end task tick)).code ≡ 0
    → (i : ℕ) → i < book.tasks → Waiting book i → StartsExactly tick (dispatch book (end task tick)) i

-- and as `started-when-free` has it: after any reports and drops a task has started exactly when all it waits for have ended
abbrev pub StartedWhenFree : Dispatcher → Type 0
StartedWhenFree dispatch =
    (plan : Plan) (rule : Rule) → SizedPlan plan → is_accepted plan ≡ true → (events : List Event)
    → (i : ℕ) → i < (book_by dispatch (opened_book plan rule) events).tasks
    → Started (book_by dispatch (opened_book plan rule) events) i ↔ AllEnded (book_by dispatch (opened_book plan rule) events) i

-- the run of plan A to clock 4 and to 6
abbrev pub to_four : List Event
to_four = end 2 3 ∷ end 1 4 ∷ []

abbrev pub to_six : List Event
to_six = end 2 3 ∷ end 1 4 ∷ end 3 6 ∷ []

-- the book with this clock, these starts, ends and marks
abbrev pub with_state : Book → ℕ → List ℕ → List ℕ → List ℕ → Book
with_state book clock start end mark = record {
  edition = book.edition;
  boards = book.boards;
  tasks = book.tasks;
  rule = book.rule;
  clock = clock;
  board = book.board;
  ready = book.ready;
  begin = book.begin;
  finish = book.finish;
  start = start;
  end = end;
  mark = mark;
  dropped = book.dropped;
  holds = book.holds;
  after = book.after;
}

-- task i starts at the clock
abbrev pub start_at : Book → ℕ → Book
start_at book i = with_state book book.clock (set book.start i book.clock) book.end (set book.mark i 1)

-- task i ends at the tick, and nobody starts
abbrev pub end_at : Book → ℕ → ℕ → Book
end_at book i tick = with_state book tick book.start (set book.end i tick) (set book.mark i 2)

-- "one that dispatches on the first report and afterwards only records ends": the clock is 0 until a report is accepted
abbrev pub only_ends : Dispatcher
only_ends book (Event.ends task tick) = end_at book (task - 1) tick
only_ends book (Event.drops task) = book

abbrev pub first_only : Dispatcher
first_only book event = cond (eqb book.clock 0) (book_told book event) (only_ends book event)

-- "Looking for starts on the reporter's board only": those below n who may go there start
unfoldable pub start_on : ℕ → ℕ → Book → Book
start_on zero on book = book
start_on (suc n) on book =
    let first = start_on n on book in
    cond (eqb (at book.board n) on && goes (plan_view first) (book_view first) n) (start_at first n) first

abbrev pub own_board : Dispatcher
own_board book (Event.ends task tick) = start_on book.tasks (at book.board (task - 1)) (end_at book (task - 1) tick)
own_board book (Event.drops task) = book

-- "Starting a task once its board and drives are free": four tasks, all taking their full length
abbrev pub text_four : List ℕ
text_four =
    bytes
    "plan\t1\t2\t4\ntask\t1\t1\t0\t4\t-\t-\ntask\t2\t2\t0\t5\t-\t-\ntask\t3\t2\t5\t6\te1\t-\ntask\t4\t1\t6\t9\te1\t-\n"

unfoldable pub plan_four : Plan
plan_four = (reading_of text_four).plan

-- nobody who runs has the same board or a clashing drive
abbrev pub is_free : Book → ℕ → Bool
is_free book i =
    waiting (at book.mark) i
    && every book.tasks
    (λ j.
    not
    (running (at book.mark) j
    && (same_board (task_at (plan_in book) i) (task_at (plan_in book) j)
    || clash_by_drive (task_at (plan_in book) i).holds (task_at (plan_in book) j).holds)))

-- whoever is free starts, by rising task number
unfoldable pub start_free : ℕ → Book → Book
start_free zero book = book
start_free (suc n) book = let first = start_free n book in cond (is_free first n) (start_at first n) first

abbrev pub board_free : Dispatcher
board_free book (Event.ends task tick) = start_free book.tasks (end_at book (task - 1) tick)
board_free book (Event.drops task) = book

-- "Waiting only for tasks that finish strictly before"
abbrev pub strictly : Plan → theory-plan.Plan
strictly plan = record {
  tasks = plan.tasks;
  ready = at plan.ready;
  begin = at plan.begin;
  finish = at plan.finish;
  waits = λ i j. ltb (at plan.finish j) (at plan.begin i);
}
