-- Numbers that apply at once: the one that goes first is given. Rows for 14 and 15 are starred, too; for a drop's 10 and 19 see Drops, for
-- 3, 4, 20 and 18 in one line Columns, Ready and Shared, for 5, 17 and 6 Late, for 1 Limits.
use Rattle.std.specs.Prelude.{ℕ, List, [], ◌∷◌}
use Rattle.text.specs.Bytes.{bytes}
use Rattle.plan.specs.Answer.{refuse}
use Rattle.plan.specs.Read.{reading_of}
use Rattle.plan.specs.declared.Plan.{Plan}
use Rattle.tables.specs.Texts.{Reads, reads}
use Rattle.tables.specs.Walk.{end, absent, Step, told, gives, starts, ends}

-- reports on plan A. In a sound book a running task's limit is past its start and at or past the clock, so 14 applies beside neither 12
-- nor 13, and 15 not beside 12
abbrev pub report_order : List (List Step)
report_order =
    -- of no task
    (gives (end 0 1) 10
    -- 10 and 15: of no task, past the limit of task 2
    ∷ gives (end 6 5) 10
    -- 11 and 15
    ∷ gives (end 4 7) 11
    -- 14 and 15
    ∷ gives (end 1 7) 14
    ∷ told (end 2 3)
    -- 10 and 12
    ∷ gives (end 6 2) 10
    -- 11 and 12
    ∷ gives (end 2 2) 11
    -- 11, 12 and 13
    ∷ gives (end 2 0) 11
    -- 11 and 14
    ∷ gives (end 2 5) 11
    -- 12 and 13
    ∷ gives (end 3 2) 12
    ∷ [])
    -- 11 and 13: a dropped task that has started and ended at 3
    ∷ (told (absent 3) ∷ told (end 2 3) ∷ ends 3 3 ∷ gives (end 3 3) 11 ∷ [])
    ∷ []

-- task 2 is planned for 3 and starts at 0, so its limit is 4; task 3 starts at 5, its ready tick
abbrev pub text_ahead : List ℕ
text_ahead = bytes "plan\t2\t3\t3\ntask\t1\t1\t0\t0\t9\t-\t-\ntask\t2\t2\t0\t3\t7\t-\t-\ntask\t3\t3\t5\t5\t9\t-\t-\n"

unfoldable pub plan_ahead : Plan
plan_ahead = (reading_of text_ahead).plan

-- 13 and 15
abbrev pub ahead_order : List (List Step)
ahead_order = (starts 2 0 ∷ starts 3 5 ∷ gives (end 3 5) 13 ∷ gives (end 1 5) 15 ∷ []) ∷ []

-- a book that is not sound, that of zeros: 9 before 10
abbrev pub unsound_order : List (List Step)
unsound_order = (gives (end 0 1) 9 ∷ gives (absent 0) 9 ∷ []) ∷ []

abbrev pub text_order : List Reads
text_order =
    -- 2 and 3
    reads (bytes "plan\t1\t9\t1\ntask\tx\n") (refuse 2 1 0)
    -- 4, and 18, in a line before 3 in a later one
    ∷ reads (bytes "plan\t1\t1\t2\ntask\t1\t2\t0\t4\t-\t-\ntask\tx\n") (refuse 4 2 8)
    ∷ reads (bytes "plan\t2\t1\t2\ntask\t1\t1\t6\t5\t9\t-\t-\ntask\tx\n") (refuse 18 2 10)
    -- 3, 4, 20 and 18, each with 5
    ∷ reads (bytes "plan\t1\t1\t1\ntask\tx\t1\t0\t4\t-\t-\nx") (refuse 3 2 6)
    ∷ reads (bytes "plan\t1\t1\t1\ntask\t2\t1\t0\t4\t-\t-\nx") (refuse 4 2 6)
    ∷ reads (bytes "plan\t2\t1\t1\ntask\t1\t1\t0\t0\t4\ts1\t-\nx") (refuse 20 2 16)
    ∷ reads (bytes "plan\t2\t1\t1\ntask\t1\t1\t6\t5\t9\t-\t-\nx") (refuse 18 2 10)
    -- 4 and 6; 5 and 6
    ∷ reads (bytes "plan\t1\t1\t2\ntask\t1\t1\t0\t4\t-\t-\ntask\t2\t1\t3\t3\t-\t-\n") (refuse 4 3 12)
    ∷ reads (bytes "plan\t1\t1\t2\ntask\t1\t1\t0\t4\t-\t-\ntask\t2\t1\t3\t9\t-\t-\n\n") (refuse 5 4 0)
    -- 17 and 7; 17 and 8
    ∷ reads (bytes "plan\t1\t2\t2\ntask\t1\t1\t1\t4\te1\t-\ntask\t2\t2\t3\t9\te1\t-\n") (refuse 17 1 0)
    ∷ reads (bytes "plan\t1\t2\t2\ntask\t1\t1\t1\t4\t-\t-\ntask\t2\t2\t3\t9\t-\t1\n") (refuse 17 1 0)
    -- 6, 7 and 8, each alone
    ∷ reads (bytes "plan\t1\t2\t2\ntask\t1\t1\t0\t4\te1\t-\ntask\t2\t1\t3\t9\te2\t-\n") (refuse 6 1 2)
    ∷ reads (bytes "plan\t1\t2\t2\ntask\t1\t1\t0\t4\te1\t-\ntask\t2\t2\t3\t9\te1\t-\n") (refuse 7 1 2)
    ∷ reads (bytes "plan\t1\t2\t2\ntask\t1\t1\t0\t4\te1\t-\ntask\t2\t2\t3\t9\te2\t1\n") (refuse 8 1 2)
    -- 6 and 7; 6 and 8; 7 and 8; all three
    ∷ reads (bytes "plan\t1\t2\t2\ntask\t1\t1\t0\t4\te1\t-\ntask\t2\t1\t3\t9\te1\t-\n") (refuse 6 1 2)
    ∷ reads (bytes "plan\t1\t2\t2\ntask\t1\t1\t0\t4\te1\t-\ntask\t2\t1\t3\t9\te2\t1\n") (refuse 6 1 2)
    ∷ reads (bytes "plan\t1\t2\t2\ntask\t1\t1\t0\t4\te1\t-\ntask\t2\t2\t3\t9\te1\t1\n") (refuse 7 1 2)
    ∷ reads (bytes "plan\t1\t2\t2\ntask\t1\t1\t0\t4\te1\t-\ntask\t2\t1\t3\t9\te1\t1\n") (refuse 6 1 2)
    -- by a, then by b: 8 of (1, 2) and 6 of (1, 3); 6 of (1, 3) and 8 of (2, 2)
    ∷ reads (bytes "plan\t1\t2\t3\ntask\t1\t1\t0\t4\t-\t-\ntask\t2\t2\t3\t9\t-\t1\ntask\t3\t1\t3\t9\t-\t-\n") (refuse 8 1 2)
    ∷ reads (bytes "plan\t1\t2\t3\ntask\t1\t1\t0\t4\t-\t-\ntask\t2\t2\t0\t4\t-\t2\ntask\t3\t1\t3\t9\t-\t-\n") (refuse 6 1 3)
    ∷ []
