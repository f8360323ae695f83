-- Both sides of the limits of a text: bytes, tasks and ticks.
use Rattle.std.specs.Prelude.{ℕ, zero, suc, List, [], ◌∷◌, ◌++◌, replicate}
use Rattle.laws.specs.Digits.{digits_of}
use Rattle.text.specs.Bytes.{bytes}
use Rattle.text.specs.Line.{LF, line_text}
use Rattle.plan.specs.Answer.{refuse, granted}
use Rattle.tables.specs.Texts.{Reads, reads}

-- so many empty lines
abbrev pub empty_lines : ℕ → List ℕ
empty_lines n = replicate n LF

-- 32,768 bytes are read, and these have no first line; one more is too long, which goes before 2
abbrev pub byte_rows : List Reads
byte_rows = reads (empty_lines 32768) (refuse 2 1 0) ∷ reads (empty_lines 32769) (refuse 1 0 0) ∷ []

-- and of ends.txt, on plan A: 32,768 bytes are read, and the first line is refused by 3
abbrev pub log_read : List ℕ
log_read = bytes "run\t1\t2\t5\nstart\t1\t1\t0\t0\nstart\t2\t2\t0\t0\nearly\t0\t0\nrefused\t3\t1\t1\n"

abbrev pub log_too_long : List ℕ
log_too_long = bytes "refused\t1\t0\t0\n"

-- a refused plan goes before a too long ends.txt
abbrev pub log_unread : List ℕ
log_unread = bytes "refused\t2\t1\t0\n"

-- one board and n tasks, each a tick long
unfoldable pub tick_tasks : ℕ → List ℕ
tick_tasks zero = []
tick_tasks (suc n) =
    tick_tasks n ++ line_text (bytes "task" ∷ digits_of (suc n) ∷ bytes "1" ∷ digits_of n ∷ digits_of (suc n) ∷ bytes "-" ∷ bytes "-" ∷ [])

abbrev pub tasks_text : ℕ → List ℕ
tasks_text n = line_text (bytes "plan" ∷ bytes "1" ∷ bytes "1" ∷ digits_of n ∷ []) ++ tick_tasks n

-- T 64 read, 65 gives 2
abbrev pub task_rows : List Reads
task_rows = reads (tasks_text 64) granted ∷ reads (tasks_text 65) (refuse 2 1 0) ∷ []

-- one board, one task
abbrev pub one_task : List ℕ → List ℕ
one_task line = bytes "plan\t1\t1\t1\n" ++ line

-- finish 1,000,000 read, 1,000,001 gives 4; finish equal to start gives 4; drives 1 to 32; after 1 to T; boards 1 to 8; no task;
-- task 3 of plan A moved to start 3 gives 6 with 2, 3; task 2 listing itself gives 8 with 2, 2
abbrev pub range_rows : List Reads
range_rows =
    reads (one_task (bytes "task\t1\t1\t0\t1000000\t-\t-\n")) granted
    ∷ reads (one_task (bytes "task\t1\t1\t0\t1000001\t-\t-\n")) (refuse 4 2 12)
    ∷ reads (one_task (bytes "task\t1\t1\t0\t0\t-\t-\n")) (refuse 4 2 12)
    ∷ reads (one_task (bytes "task\t1\t1\t0\t1\te1,e32\t-\n")) granted
    ∷ reads (one_task (bytes "task\t1\t1\t0\t1\te1,e33\t-\n")) (refuse 4 2 14)
    ∷ reads (one_task (bytes "task\t1\t1\t0\t1\te0\t-\n")) (refuse 4 2 14)
    ∷ reads (one_task (bytes "task\t1\t1\t0\t1\t-\t2\n")) (refuse 4 2 16)
    ∷ reads (one_task (bytes "task\t1\t1\t0\t1\t-\t0\n")) (refuse 4 2 16)
    ∷ reads (bytes "plan\t1\t8\t1\ntask\t1\t8\t0\t1\t-\t-\n") granted
    ∷ reads (bytes "plan\t1\t9\t1\ntask\t1\t9\t0\t1\t-\t-\n") (refuse 2 1 0)
    ∷ reads (bytes "plan\t1\t0\t1\ntask\t1\t1\t0\t1\t-\t-\n") (refuse 2 1 0)
    ∷ reads (bytes "plan\t1\t1\t0\n") (refuse 2 1 0)
    ∷ reads
    (bytes
    "plan\t1\t2\t5\ntask\t1\t1\t0\t6\te1\t-\ntask\t2\t2\t0\t4\t-\t-\ntask\t3\t2\t3\t9\ts2\t-\ntask\t4\t1\t9\t12\te2\t1\ntask\t5\t2\t10\t14\te1\t3\n")
    (refuse 6 2 3)
    ∷ reads
    (bytes
    "plan\t1\t2\t5\ntask\t1\t1\t0\t6\te1\t-\ntask\t2\t2\t0\t4\t-\t2\ntask\t3\t2\t4\t9\ts2\t-\ntask\t4\t1\t9\t12\te2\t1\ntask\t5\t2\t10\t14\te1\t3\n")
    (refuse 8 2 2)
    ∷ []
