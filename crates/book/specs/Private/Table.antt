-- For every task and every board, the last task waited for; and what the functions do by that table.
use Rattle.std.specs.Prelude.{ℕ, zero, suc, ◌+◌, ◌-◌, ◌<◌, ◌≤◌, max, Bool, true, cond, ◌&&◌, ◌||◌, List, [], ◌⊎◌, ◌≢◌, ◌≡◌, eqb, get_or, Option, Some, None}
use Rattle.laws.specs.Each.{each}
use Rattle.laws.specs.Every.{every, any}
use Rattle.laws.specs.Private.Last.{last_of}
use Rattle.theory.specs.Plan.{Plan}
use Rattle.theory.specs.Book.{Book, waiting, ended, is_dropped}
use Rattle.plan.specs.Value.{at}
use Rattle.book_view.specs.View.{plan_seen, book_seen, laid}
use Rattle.book.specs.declared.Book as own
use Rattle.book.specs.declared.StepArrays.{StepArrays}

-- the plan of a book, as steps look at it, with these wait sets
abbrev pub plan_by : own.Book → List ℕ → Plan
plan_by book waits = plan_seen book.tasks book.ready [] book.finish waits

-- i waits for k, which is on the board
abbrev pub waits_on : Plan → (ℕ → ℕ) → ℕ → ℕ → ℕ → Bool
waits_on plan board i on k = plan.waits i k && eqb (board k) on

-- the task counted l from 1, if there is one, has ended
abbrev pub has_ended : (ℕ → ℕ) → ℕ → Bool
has_ended mark l = eqb l 0 || ended mark (l - 1)

unfoldable pub row_ended : (ℕ → ℕ) → List ℕ → Bool
row_ended mark row = every 8 (λ j. has_ended mark (at row j))

abbrev pub SmallRow : List ℕ → Type 0
SmallRow row = (j : ℕ) → j < 8 → at row j ≤ 64

-- the rows of those below n who wait
abbrev pub SmallTable : (ℕ → ℕ) → ℕ → List (List ℕ) → Type 0
SmallTable mark n table = (i : ℕ) → i < n → mark i ≡ 0 → SmallRow (get_or table i [])

-- a waiting task may go, by its row; and a dropped one may be skipped
abbrev pub goes_by_row : List ℕ → List (List ℕ) → ℕ → Bool
goes_by_row mark table i = waiting (at mark) i && row_ended (at mark) (get_or table i [])

abbrev pub skips_by_row : List ℕ → List ℕ → List (List ℕ) → ℕ → Bool
skips_by_row mark dropped table i = is_dropped (at dropped) i && goes_by_row mark table i

-- the values of a list, with v where one of the first n is picked
abbrev pub put_each : ℕ → (ℕ → Bool) → (ℕ → ℕ) → List ℕ → List ℕ
put_each n pick v l = each n (λ i. cond (pick i) (v i) (at l i)) l

-- one round of skipping among the first n tasks, and rounds one after the other
unfoldable pub round_by : List ℕ → List (List ℕ) → ℕ → ℕ → StepArrays → StepArrays
round_by dropped table clock n old = record {
  mark = put_each n (skips_by_row old.mark dropped table) (λ i. 2) old.mark;
  start = put_each n (skips_by_row old.mark dropped table) (λ i. clock) old.start;
  end = put_each n (skips_by_row old.mark dropped table) (λ i. clock) old.end;
}

-- a round, if it skips somebody
abbrev pub skipped_by : List ℕ → List (List ℕ) → ℕ → ℕ → StepArrays → Option StepArrays
skipped_by dropped table clock n old =
    cond (any n (skips_by_row old.mark dropped table)) (Some (round_by dropped table clock n old)) None

unfoldable pub rounds_by : ℕ → List ℕ → List (List ℕ) → ℕ → ℕ → StepArrays → StepArrays
rounds_by zero dropped table clock n old = old
rounds_by (suc k) dropped table clock n old = rounds_by k dropped table clock n (round_by dropped table clock n old)

-- whoever of the first n may go starts at the later of its ready tick and the clock
unfoldable pub starts_by : (ℕ → ℕ) → List (List ℕ) → ℕ → ℕ → StepArrays → StepArrays
starts_by ready table clock n old = record {
  mark = put_each n (goes_by_row old.mark table) (λ i. 1) old.mark;
  start = put_each n (goes_by_row old.mark table) (λ i. max (ready i) clock) old.start;
  end = old.end;
}

-- these arrays as the theory sees them, and the theory's book in them
abbrev pub seen_as : StepArrays → List ℕ → ℕ → Book
seen_as moved dropped clock = book_seen moved.mark moved.start moved.end dropped clock

abbrev pub moved_to : ℕ → Book → StepArrays
moved_to n book = record { mark = laid n book.mark; start = laid n book.start; end = laid n book.end }

-- a row of the table, with the tasks below n looked at
pub record RowTo (plan : Plan) (board : ℕ → ℕ) (i n : ℕ) (row : List ℕ) : Type 0 where
  pub cells : (j : ℕ) → j < 8 → at row j ≡ last_of n (waits_on plan board i (j + 1)) plan.finish

-- the rows of those below n who wait
pub record TableTo (plan : Plan) (board mark : ℕ → ℕ) (n : ℕ) (table : List (List ℕ)) : Type 0 where
  pub rows : (i : ℕ) → i < n → mark i ≡ 0 → RowTo plan board i plan.tasks (get_or table i [])

-- boards are 1 to 8
abbrev pub OnEight : Plan → (ℕ → ℕ) → Type 0
OnEight plan board = (i : ℕ) → i < plan.tasks → (0 < board i) × (board i ≤ 8)

-- of two tasks of one board one waits for the other
abbrev pub InTurn : Plan → (ℕ → ℕ) → Type 0
InTurn plan board =
    (i j : ℕ) → i < plan.tasks → j < plan.tasks → i ≢ j → board i ≡ board j
    → (plan.waits i j ≡ true) ⊎ (plan.waits j i ≡ true)

-- who waits for a task is planned to finish after it
abbrev pub Onward : Plan → Type 0
Onward plan = (i j : ℕ) → i < plan.tasks → j < plan.tasks → plan.waits i j ≡ true → plan.finish j < plan.finish i

-- whoever a started task waits for has ended
abbrev pub Closed : Plan → (ℕ → ℕ) → Type 0
Closed plan mark =
    (i j : ℕ) → i < plan.tasks → j < plan.tasks → mark i ≢ 0 → plan.waits i j ≡ true → mark j ≡ 2

-- nothing is known of a task past the first n
pub record Past (n : ℕ) (book : Book) : Type 0 where
  pub mark : (j : ℕ) → n ≤ j → book.mark j ≡ 0
  pub start : (j : ℕ) → n ≤ j → book.start j ≡ 0
  pub end : (j : ℕ) → n ≤ j → book.end j ≡ 0
  pub dropped : (j : ℕ) → n ≤ j → book.dropped j ≡ 0

-- what the start rule asks
pub record Fit (plan : Plan) (board : ℕ → ℕ) (book : Book) : Type 0 where
  pub few : plan.tasks ≤ 64
  pub onward : Onward plan
  pub on : OnEight plan board
  pub turn : InTurn plan board
  pub closed : Closed plan book.mark
  pub past : Past plan.tasks book
