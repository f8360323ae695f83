-- The rows of request P13: the exact figure along plan A and on a plan with gaps, and impostors of it.
use Rattle.std.specs.Prelude.{ℕ, ◌-◌, Bool, true, false, not, cond, List, [], ◌∷◌, eqb}
use Rattle.std.proofs.Math.Option.{Option, none, some, get_or}
use Rattle.laws.specs.Picked.{least}
use Rattle.text.specs.Bytes.{bytes}
use Rattle.theory.specs.Book.{waiting, running, ended, is_dropped}
use Rattle.theory.specs.Times.{start_time}
use Rattle.theory.specs.Exact.{not_started, full_length, full_start, exact_early}
use Rattle.plan.specs.Read.{reading_of}
use Rattle.plan.specs.declared.Plan.{Plan}
use Rattle.book.specs.View.{plan_view, book_view}
use Rattle.book.specs.declared.Book.{Book}
use Rattle.tables.specs.Walk.{end, absent, Step, told, shows, starts, makes}

-- tasks 3 and 4 wait for 1 and 2, task 5 for all; task 3 awaits tick 2 and task 4 tick 9
abbrev pub text_gaps : List ℕ
text_gaps =
    bytes
    "plan\t2\t2\t5\ntask\t1\t1\t0\t0\t4\t-\t-\ntask\t2\t2\t0\t0\t6\t-\t-\ntask\t3\t1\t2\t10\t14\t-\t-\ntask\t4\t2\t9\t12\t15\t-\t-\ntask\t5\t1\t0\t20\t22\t-\t-\n"

unfoldable pub plan_gaps : Plan
plan_gaps = (reading_of text_gaps).plan

-- the exact figure is this number
abbrev is_number : Option ℕ → ℕ → Bool
is_number none early = false
is_number (some number) early = eqb number early

abbrev pub exactly : ℕ → Step
exactly early = Step.asks (λ book. is_number (exact_early (plan_view book) (book_view book)) early)

-- it is "none"
abbrev is_none : Option ℕ → Bool
is_none none = true
is_none (some number) = false

abbrev pub nothing : Step
nothing = Step.asks (λ book. is_none (exact_early (plan_view book) (book_view book)))

-- along plan A, beside M: at clock 3 task 4 starts at 8 at the latest, 1 early, where M is 0; at clock 6 every task has started
abbrev pub exact_items : List (List Step)
exact_items =
    (shows 0
    ∷ exactly 0
    ∷ told (end 2 3)
    ∷ shows 0
    ∷ exactly 1
    ∷ told (end 1 4)
    ∷ shows 1
    ∷ exactly 1
    ∷ told (end 3 6)
    ∷ shows 3
    ∷ nothing
    ∷ told (end 5 8)
    ∷ told (end 4 9)
    ∷ shows 0
    ∷ nothing
    ∷ [])
    ∷ []

-- ---- impostors: the least over other tasks, or by other starts

abbrev least_over : (ℕ → Bool) → (ℕ → ℕ) → Book → ℕ
least_over counts start book = get_or (least book.tasks counts (λ i. (plan_view book).begin i - start i)) 0

-- running tasks counted too
abbrev pub running_too : Book → ℕ
running_too book = least_over (λ i. not (ended (book_view book).mark i)) (full_start (plan_view book) (book_view book)) book

-- a running task ends at the clock, instead of at its limit
abbrev pub at_clock : Book → ℕ
at_clock book =
    least_over (not_started (book_view book))
    (start_time (plan_view book)
    (λ i. cond (running (book_view book).mark i) (book.clock - (book_view book).start i) (full_length (plan_view book) (book_view book) i))
    (book_view book).dropped)
    book

-- known starts past the clock counted as started
abbrev pub known_started : Book → ℕ
known_started book = least_over (waiting (book_view book).mark) (full_start (plan_view book) (book_view book)) book

-- a dropped task's ready tick read
abbrev pub dropped_ready : Book → ℕ
dropped_ready book =
    least_over (not_started (book_view book))
    (start_time (plan_view book)
    (λ i. cond (is_dropped (book_view book).dropped i) 0 (full_length (plan_view book) (book_view book) i)) (λ i. 0))
    book

-- dropped tasks left out, as they are of M's terms
abbrev pub dropped_out : Book → ℕ
dropped_out book =
    least_over (λ i. cond (is_dropped (book_view book).dropped i) false (not_started (book_view book) i))
    (full_start (plan_view book) (book_view book)) book

-- 0 for "none"
abbrev pub zero_for_none : Book → ℕ
zero_for_none book = get_or (exact_early (plan_view book) (book_view book)) 0

-- no impostor: waiting tasks at no length give the same figure
abbrev pub waiting_none : Book → ℕ
waiting_none book =
    least_over (not_started (book_view book))
    (start_time (plan_view book)
    (λ i. cond (waiting (book_view book).mark i) 0 (full_length (plan_view book) (book_view book) i)) (book_view book).dropped)
    book

-- at opening 3, of task 4 at its ready tick 9, where M and the running tasks give 0; with task 4 dropped 4, of task 3 at 6, where a
-- running task's end at the clock gives 8 and the ready tick of task 4 gives 3; with task 3 dropped too still 4, where only task 5 is
-- left without the dropped ones; at clock 3, where the start of task 4 is known to be 9, 3, and of task 5 alone 8; "none" once
-- task 5 has started
abbrev pub gap_items : List (List Step)
gap_items =
    (shows 0
    ∷ exactly 3
    ∷ makes running_too 0
    ∷ told (end 1 2)
    ∷ told (end 2 3)
    ∷ starts 4 9
    ∷ shows 3
    ∷ exactly 3
    ∷ makes known_started 8
    ∷ told (end 3 5)
    ∷ told (end 4 11)
    ∷ shows 9
    ∷ nothing
    ∷ makes zero_for_none 0
    ∷ [])
    ∷ (told (absent 4)
    ∷ exactly 4
    ∷ makes at_clock 8
    ∷ makes dropped_ready 3
    ∷ told (absent 3)
    ∷ exactly 4
    ∷ makes dropped_out 14
    ∷ makes waiting_none 4
    ∷ [])
    ∷ []
