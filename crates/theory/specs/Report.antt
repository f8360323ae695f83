-- Reports and drops: their refusal numbers and the book after them; opening.
use Rattle.std.specs.Prelude.{Bool, not, cond, ◌&&◌, ◌||◌, ℕ, zero, suc, ◌-◌, max, leb, ltb, eqb}
use Rattle.laws.specs.Every.{implies, every}
use Rattle.theory.specs.Plan.{Plan}
use Rattle.theory.specs.Book.{Book, book_of, waiting, running, is_dropped, limit, all_ended}

-- no running task's limit is before the tick
unfoldable pub none_past : Plan → Book → ℕ → Bool
none_past plan book tick = every plan.tasks (λ j. implies (running book.mark j) (leb tick (limit plan book j)))

-- the codes 10 to 15 in their order; 0 where the report is accepted
unfoldable pub report_code : Plan → Book → ℕ → ℕ → ℕ
report_code plan book k tick =
    cond (leb plan.tasks k) 10
    (cond (not (running book.mark k)) 11
    (cond (ltb tick book.clock) 12
    (cond (leb tick (book.start k)) 13
    (cond (ltb (limit plan book k) tick) 14
    (cond (not (none_past plan book tick)) 15 0)))))

-- a drop: 10, then 19 if its start is known or it is already dropped
unfoldable pub drop_code : Plan → Book → ℕ → ℕ
drop_code plan book k =
    cond (leb plan.tasks k) 10 (cond (not (waiting book.mark k) || is_dropped book.dropped k) 19 0)

-- the code of a task by its number: task k from 1 is k - 1 here, and no task has the number 0
abbrev pub from_one : (ℕ → ℕ) → ℕ → ℕ
from_one code task = cond (eqb task 0) 10 (code (task - 1))

-- f with the value v wherever the test holds, or at k alone
abbrev pub put : (ℕ → Bool) → ℕ → (ℕ → ℕ) → ℕ → ℕ
put test v f i = cond (test i) v (f i)

abbrev pub put_at : ℕ → ℕ → (ℕ → ℕ) → ℕ → ℕ
put_at k v f = put (λ i. eqb i k) v f

-- task k ends at the tick
abbrev pub end_it : Book → ℕ → ℕ → Book
end_it book k tick = book_of (put_at k 2 book.mark) book.start (put_at k tick book.end) book.dropped tick

-- a waiting task may go once all it waits for have ended
unfoldable pub goes : Plan → Book → ℕ → Bool
goes plan book i = ltb i plan.tasks && (waiting book.mark i && all_ended plan book.mark i)

-- a dropped task takes no time: once it may go it starts and ends at the clock
abbrev pub skips : Plan → Book → ℕ → Bool
skips plan book i = goes plan book i && is_dropped book.dropped i

abbrev pub skip_once : Plan → Book → Book
skip_once plan book =
    let now = put (skips plan book) book.clock in
    book_of (put (skips plan book) 2 book.mark) (now book.start) (now book.end) book.dropped book.clock

-- others that it held back may follow on the same tick, so this is done again and again
unfoldable pub skip_times : ℕ → Plan → Book → Book
skip_times zero plan book = book
skip_times (suc n) plan book = skip_times n plan (skip_once plan book)

-- whoever may go starts at the later of its ready tick and the clock: the start is fixed, even if it lies past the clock
abbrev pub let_go : Plan → Book → Book
let_go plan book =
    let going = put (goes plan book) in
    book_of (going 1 book.mark) (λ i. going (max (plan.ready i) book.clock) book.start i) book.end book.dropped
    book.clock

-- the book after an accepted report: end it, skip the dropped tasks that may go, let go whoever may go.
-- No chain is longer than there are tasks
unfoldable pub next : Plan → Book → ℕ → ℕ → Book
next plan book k tick = let_go plan (skip_times plan.tasks plan (end_it book k tick))

-- the book after an accepted drop
abbrev pub drop_it : Book → ℕ → Book
drop_it book k = book_of book.mark book.start book.end (put_at k 1 book.dropped) book.clock

-- nothing is known yet
abbrev pub blank : Book
blank = book_of (λ i. 0) (λ i. 0) (λ i. 0) (λ i. 0) 0

-- A task that waits for nobody starts at its ready tick
unfoldable pub opened : Plan → Book
opened plan = let_go plan blank
