-- The rows of request P8: plan B, of edition 2, what reports and drops on it are answered, who starts when, and what texts are
-- answered; and impostors.
use Rattle.std.specs.Prelude.{ℕ, ◌-◌, cond, ◌&&◌, ◌||◌, List, [], ◌∷◌, leb}
use Rattle.std.proofs.Math.Option.{get_or}
use Rattle.laws.specs.Every.{implies, every}
use Rattle.laws.specs.Picked.{least}
use Rattle.text.specs.Bytes.{bytes}
use Rattle.theory.specs.Book.{waiting, running}
use Rattle.theory.specs.Figure.{early_by}
use Rattle.theory.specs.Words.Events.{Event}
use Rattle.plan.specs.Answer.{refuse, granted}
use Rattle.plan.specs.Value.{at, plan_with}
use Rattle.plan.specs.Read.{reading_of}
use Rattle.plan.specs.declared.Plan.{Plan}
use Rattle.book.specs.View.{plan_view, book_view}
use Rattle.book.specs.declared.Book.{Book}
use Rattle.book.specs.declared.Rule.TheVariants.{EarlyStart}
use Rattle.promises.specs.Runs.{limit_of, due_of, run_of}
use Rattle.tables.specs.Walk.{end, absent, Step, told, gives, shows, starts, runs, ends, makes}
use Rattle.tables.specs.Texts.{Reads, reads}

-- task, board, ready, planned start, planned finish: task 2 waits for nobody and awaits tick 2; task 3 waits for 1 and 2 and awaits
-- tick 5; task 4 waits for these and awaits tick 18; task 5 waits for all
abbrev pub text_b : List ℕ
text_b =
    bytes
    "plan\t2\t2\t5\ntask\t1\t1\t0\t0\t9\t-\t-\ntask\t2\t2\t2\t3\t6\t-\t-\ntask\t3\t2\t5\t9\t12\t-\t-\ntask\t4\t1\t18\t20\t25\t-\t-\ntask\t5\t2\t0\t25\t30\t-\t-\n"

unfoldable pub plan_b : Plan
plan_b = (reading_of text_b).plan

abbrev pub book_b : List Event → Book
book_b events = run_of plan_b EarlyStart events

-- tasks 1 to 3 end at 5, 3 and 8
abbrev pub to_eight : List Event
to_eight = end 2 3 ∷ end 1 5 ∷ end 3 8 ∷ []

abbrev pub ready_items : List (List Step)
ready_items =
    -- a start past the clock at opening: reports at or before it are 13, its drop is 19
    (starts 1 0
    ∷ starts 2 2
    ∷ gives (end 2 1) 13
    ∷ gives (end 2 2) 13
    ∷ gives (end 2 3) 0
    ∷ gives (absent 2) 19
    -- another task's report past its limit is 15
    ∷ gives (end 1 5) 0
    ∷ gives (end 1 6) 15
    ∷ gives (end 1 10) 14
    ∷ shows 0
    ∷ told (end 2 3)
    ∷ gives (absent 4) 0
    -- ready at the latest end
    ∷ told (end 1 5)
    ∷ starts 3 5
    -- a ready tick far off, past the clock at 8, of a task that is not dropped
    ∷ told (end 3 8)
    ∷ starts 4 18
    ∷ gives (end 4 18) 13
    ∷ gives (end 4 19) 0
    ∷ gives (end 4 24) 14
    ∷ gives (absent 4) 19
    ∷ [])
    -- ready before the latest end
    ∷ (told (end 2 4) ∷ told (end 1 7) ∷ starts 3 7 ∷ [])
    -- a ready tick far off, of a task that is dropped: it passes at 8, and task 5 starts then
    ∷ (told (absent 4) ∷ told (end 2 3) ∷ told (end 1 5) ∷ told (end 3 8) ∷ starts 4 8 ∷ ends 4 8 ∷ starts 5 8 ∷ [])
    ∷ []

-- the program's output on plan B, where task 4 is dropped
abbrev pub ends_b : List ℕ
ends_b = bytes "drop\t4\nend\t2\t3\nend\t1\t5\nend\t3\t8\nend\t5\t10\n"

abbrev pub log_b : List ℕ
log_b =
    bytes
    "run\t1\t2\t5\nstart\t1\t1\t0\t0\nstart\t2\t2\t2\t1\nearly\t0\t0\ndrop\t4\t1\nearly\t0\t0\nend\t2\t2\t3\t3\nearly\t3\t0\nend\t1\t1\t5\t4\nstart\t3\t2\t5\t4\nearly\t5\t4\nend\t3\t2\t8\t4\nskip\t4\t1\t8\t12\nstart\t5\t2\t8\t17\nearly\t8\t17\nend\t5\t2\t10\t20\nearly\t10\t0\n"

-- refused by 18 with the column of the ready field; with 4 and with 3 beside it; a ready tick out of range and misspelt; ready at
-- the planned start; seven fields in edition 2, eight in edition 1; edition 3; plan B
abbrev pub ready_rows : List Reads
ready_rows =
    reads (bytes "plan\t2\t1\t1\ntask\t1\t1\t6\t5\t9\t-\t-\n") (refuse 18 2 10)
    ∷ reads (bytes "plan\t2\t1\t1\ntask\t1\t1\t6\t5\t5\t-\t-\n") (refuse 4 2 14)
    ∷ reads (bytes "plan\t2\t1\t1\ntask\t1\t1\t6\t5\t9\tq1\t-\n") (refuse 3 2 16)
    ∷ reads (bytes "plan\t2\t1\t1\ntask\t1\t1\t1000001\t5\t9\t-\t-\n") (refuse 4 2 10)
    ∷ reads (bytes "plan\t2\t1\t1\ntask\t1\t1\t\t5\t9\t-\t-\n") (refuse 3 2 10)
    ∷ reads (bytes "plan\t2\t1\t1\ntask\t1\t1\t0\t0\t9\t-\t-\n") granted
    ∷ reads (bytes "plan\t2\t1\t1\ntask\t1\t1\t0\t5\t-\t-\n") (refuse 3 2 14)
    ∷ reads (bytes "plan\t1\t1\t1\ntask\t1\t1\t0\t0\t5\t-\t-\n") (refuse 3 2 14)
    ∷ reads (bytes "plan\t3\t1\t1\ntask\t1\t1\t0\t0\t5\t-\t-\n") (refuse 2 1 0)
    ∷ reads text_b granted
    ∷ []

-- M of those that run alone; and with the ready terms of dropped tasks
abbrev pub running_only : Book → ℕ
running_only book =
    get_or (least book.tasks (running (at book.mark)) (λ i. at book.begin i - at book.start i)) 0

abbrev pub with_dropped : Book → ℕ
with_dropped book =
    get_or
    (least book.tasks (λ i. running (at book.mark) i || waiting (at book.mark) i) (early_by (plan_view book) (book_view book)))
    0

-- M from a ready term alone: of task 2 whose start lies past the clock, and of task 4 that waits, where it is 2 and of those that
-- run alone 4; task 3 is ready after the latest end. M of task 3 where 4 is dropped, where it is 4 and with the ready terms of dropped
-- tasks 2
abbrev pub figure_items : List (List Step)
figure_items =
    (told (end 1 1) ∷ shows 1 ∷ told (end 2 3) ∷ shows 2 ∷ makes running_only 4 ∷ starts 3 5 ∷ [])
    ∷ (told (absent 4) ∷ told (end 1 1) ∷ told (end 2 3) ∷ shows 4 ∷ makes with_dropped 2 ∷ [])
    ∷ []

-- a start at the latest end though the task is not ready; a start only when the clock reaches the ready tick, which is known here
-- at clock 8
abbrev pub start_impostors : List (List Step)
start_impostors =
    (told (end 2 3) ∷ told (end 1 5) ∷ told (end 3 8) ∷ runs 4 18 ∷ makes (λ book. due_of book 3) 8 ∷ makes (λ book. book.clock) 8 ∷ []) ∷ []

-- 15 that asks about no start past the clock, and so lets 6 pass
abbrev pub asked_begun : ℕ → Book → ℕ
asked_begun tick book =
    cond
    (every book.tasks
    (λ j. implies (running (at book.mark) j && leb (at book.start j) book.clock) (leb tick (limit_of book j))))
    0 15

abbrev pub asked_impostor : List (List Step)
asked_impostor = (gives (end 1 6) 15 ∷ makes (asked_begun 6) 0 ∷ []) ∷ []

-- plan B called edition 1
abbrev pub plan_called_one : Plan
plan_called_one =
    plan_with 1 plan_b.boards plan_b.tasks plan_b.board plan_b.ready plan_b.begin plan_b.finish plan_b.holds plan_b.after
