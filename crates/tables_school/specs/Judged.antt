-- The rows of request P11: logs of small plans, judged.
use Rattle.std.specs.Prelude.{ℕ, Bool, true, ◌&&◌, List, [], ◌∷◌, replicate}
use Rattle.laws.specs.Lists.{same}
use Rattle.text.specs.Bytes.{bytes}
use Rattle.text.specs.Line.{LF}
use Rattle.school.specs.Text.{judged_log}

-- document 01's plan A
abbrev pub text_a : List ℕ
text_a =
    bytes
    "plan\t1\t2\t5\ntask\t1\t1\t0\t6\te1\t-\ntask\t2\t2\t0\t4\t-\t-\ntask\t3\t2\t4\t9\ts2\t-\ntask\t4\t1\t9\t12\te2\t1\ntask\t5\t2\t10\t14\te1\t3\n"

-- task 1, which is ready at 2, is planned after task 2
abbrev pub text_ready : List ℕ
text_ready = bytes "plan\t2\t1\t2\ntask\t1\t1\t2\t3\t6\t-\t-\ntask\t2\t1\t0\t0\t2\t-\t-\n"

-- the same without a ready tick
abbrev pub text_turned : List ℕ
text_turned = bytes "plan\t1\t1\t2\ntask\t1\t1\t4\t9\t-\t-\ntask\t2\t1\t0\t4\t-\t-\n"

-- a plan text, a log, and what the program prints
pub record Row : Type 0 where
  pub plan : List ℕ
  pub log : List ℕ
  pub prints : List ℕ

abbrev pub judged : List ℕ → List ℕ → List ℕ → Row
judged plan log prints = record { plan = plan; log = log; prints = prints }

unfoldable pub all_judged : List Row → Bool
all_judged [] = true
all_judged (row ∷ rows) = same (judged_log row.plan row.log) row.prints && all_judged rows

abbrev pub judged_rows : List Row
judged_rows =
    -- plan A's log is accepted; by the clash rule's first line too, the later lines in any order, a refused line among them
    judged text_a
    (bytes "run\t1\t2\t5\nstart\t1\t1\t0\t0\nstart\t2\t2\t0\t0\nearly\t0\t0\nend\t2\t2\t3\t1\nstart\t3\t2\t3\t1\nearly\t3\t0\nend\t1\t1\t4\t2\nearly\t4\t1\nend\t3\t2\t6\t3\nstart\t4\t1\t6\t3\nstart\t5\t2\t6\t4\nearly\t6\t3\nend\t5\t2\t8\t6\nearly\t8\t3\nend\t4\t1\t9\t3\nearly\t9\t3\n")
    (bytes "1\t2\n2\t1\n3\t3\n4\t3\n5\t6\naccepted\n")
    ∷ judged text_a
    (bytes "run\t2\t2\t5\tclash\nrefused\t12\t1\t2\nearly\t9\t3\nend\t4\t1\t9\t3\nearly\t8\t3\nend\t5\t2\t8\t6\nearly\t6\t3\nstart\t5\t2\t6\t4\nstart\t4\t1\t6\t3\nend\t3\t2\t6\t3\nearly\t4\t1\nend\t1\t1\t4\t2\nearly\t3\t0\nstart\t3\t2\t3\t1\nend\t2\t2\t3\t1\nearly\t0\t0\nstart\t2\t2\t0\t0\nstart\t1\t1\t0\t0\n")
    (bytes "1\t2\n2\t1\n3\t3\n4\t3\n5\t6\naccepted\n")
    -- the first line: missing, with another T, doubled; a line with no LF
    ∷ judged text_a
    (bytes "")
    (bytes "refused\t23\t1\t0\n")
    ∷ judged text_a
    (bytes "run\t1\t2\t6\nstart\t1\t1\t0\t0\nstart\t2\t2\t0\t0\nearly\t0\t0\nend\t2\t2\t3\t1\nstart\t3\t2\t3\t1\nearly\t3\t0\nend\t1\t1\t4\t2\nearly\t4\t1\nend\t3\t2\t6\t3\nstart\t4\t1\t6\t3\nstart\t5\t2\t6\t4\nearly\t6\t3\nend\t5\t2\t8\t6\nearly\t8\t3\nend\t4\t1\t9\t3\nearly\t9\t3\n")
    (bytes "refused\t23\t1\t0\n")
    ∷ judged text_a
    (bytes "run\t1\t2\t5\nstart\t1\t1\t0\t0\nstart\t2\t2\t0\t0\nearly\t0\t0\nend\t2\t2\t3\t1\nstart\t3\t2\t3\t1\nearly\t3\t0\nend\t1\t1\t4\t2\nearly\t4\t1\nend\t3\t2\t6\t3\nstart\t4\t1\t6\t3\nstart\t5\t2\t6\t4\nearly\t6\t3\nend\t5\t2\t8\t6\nearly\t8\t3\nend\t4\t1\t9\t3\nearly\t9\t3\nrun\t1\t2\t5\n")
    (bytes "refused\t23\t18\t0\n")
    ∷ judged text_a
    (bytes "run\t1\t2\t5\nstart\t1\t1\t0\t0\nstart\t2\t2\t0\t0\nearly\t0\t0\nend\t2\t2\t3\t1\nstart\t3\t2\t3\t1\nearly\t3\t0\nend\t1\t1\t4\t2\nearly\t4\t1\nend\t3\t2\t6\t3\nstart\t4\t1\t6\t3\nstart\t5\t2\t6\t4\nearly\t6\t3\nend\t5\t2\t8\t6\nearly\t8\t3\nend\t4\t1\t9\t3\nearly\t9\t3")
    (bytes "refused\t23\t17\t0\n")
    -- ticks early may be negative and are not read; `-0`, a negative figure and a skipped task are 23
    ∷ judged text_a
    (bytes "run\t1\t2\t5\nstart\t1\t1\t0\t0\nstart\t2\t2\t0\t0\nearly\t0\t0\nend\t2\t2\t3\t1\nstart\t3\t2\t3\t1\nearly\t3\t0\nend\t1\t1\t4\t2\nearly\t4\t1\nend\t3\t2\t6\t3\nstart\t4\t1\t6\t3\nstart\t5\t2\t6\t4\nearly\t6\t3\nend\t5\t2\t8\t-9\nearly\t8\t3\nend\t4\t1\t9\t3\nearly\t9\t3\n")
    (bytes "1\t2\n2\t1\n3\t3\n4\t3\n5\t6\naccepted\n")
    ∷ judged text_a
    (bytes "run\t1\t2\t5\nstart\t1\t1\t0\t0\nstart\t2\t2\t0\t0\nearly\t0\t0\nend\t2\t2\t3\t1\nstart\t3\t2\t3\t1\nearly\t3\t0\nend\t1\t1\t4\t2\nearly\t4\t1\nend\t3\t2\t6\t3\nstart\t4\t1\t6\t3\nstart\t5\t2\t6\t4\nearly\t6\t3\nend\t5\t2\t8\t-0\nearly\t8\t3\nend\t4\t1\t9\t3\nearly\t9\t3\n")
    (bytes "refused\t23\t14\t0\n")
    ∷ judged text_a
    (bytes "run\t1\t2\t5\nstart\t1\t1\t0\t0\nstart\t2\t2\t0\t0\nearly\t0\t0\nend\t2\t2\t3\t1\nstart\t3\t2\t3\t1\nearly\t3\t0\nend\t1\t1\t4\t2\nearly\t4\t1\nend\t3\t2\t6\t3\nstart\t4\t1\t6\t3\nstart\t5\t2\t6\t4\nearly\t6\t3\nend\t5\t2\t8\t6\nearly\t8\t3\nend\t4\t1\t9\t3\nearly\t9\t-1\n")
    (bytes "refused\t23\t17\t0\n")
    ∷ judged text_a
    (bytes "run\t1\t2\t5\nstart\t1\t1\t0\t0\nstart\t2\t2\t0\t0\nearly\t0\t0\nend\t2\t2\t3\t1\nstart\t3\t2\t3\t1\nearly\t3\t0\nend\t1\t1\t4\t2\nearly\t4\t1\nend\t3\t2\t6\t3\nstart\t4\t1\t6\t3\nstart\t5\t2\t6\t4\nearly\t6\t3\nend\t5\t2\t8\t6\nearly\t8\t3\nend\t4\t1\t9\t3\nskip\t1\t1\t0\t0\n")
    (bytes "refused\t23\t17\t0\n")
    -- a task past T, a board past B, a tick past 1,000,000
    ∷ judged text_a
    (bytes "run\t1\t2\t5\nstart\t1\t1\t0\t0\nstart\t2\t2\t0\t0\nearly\t0\t0\nend\t2\t2\t3\t1\nstart\t3\t2\t3\t1\nearly\t3\t0\nend\t1\t1\t4\t2\nearly\t4\t1\nend\t3\t2\t6\t3\nstart\t4\t1\t6\t3\nstart\t5\t2\t6\t4\nearly\t6\t3\nend\t6\t2\t8\t6\nearly\t8\t3\nend\t4\t1\t9\t3\nearly\t9\t3\n")
    (bytes "refused\t23\t14\t0\n")
    ∷ judged text_a
    (bytes "run\t1\t2\t5\nstart\t1\t1\t0\t0\nstart\t2\t2\t0\t0\nearly\t0\t0\nend\t2\t2\t3\t1\nstart\t3\t2\t3\t1\nearly\t3\t0\nend\t1\t1\t4\t2\nearly\t4\t1\nend\t3\t2\t6\t3\nstart\t4\t1\t6\t3\nstart\t5\t2\t6\t4\nearly\t6\t3\nend\t5\t3\t8\t6\nearly\t8\t3\nend\t4\t1\t9\t3\nearly\t9\t3\n")
    (bytes "refused\t23\t14\t0\n")
    ∷ judged text_a
    (bytes "run\t1\t2\t5\nstart\t1\t1\t0\t0\nstart\t2\t2\t0\t0\nearly\t0\t0\nend\t2\t2\t3\t1\nstart\t3\t2\t3\t1\nearly\t3\t0\nend\t1\t1\t4\t2\nearly\t4\t1\nend\t3\t2\t6\t3\nstart\t4\t1\t6\t3\nstart\t5\t2\t6\t4\nearly\t6\t3\nend\t5\t2\t1000001\t6\nearly\t8\t3\nend\t4\t1\t9\t3\nearly\t9\t3\n")
    (bytes "refused\t23\t14\t0\n")
    -- a doubled end that agrees, an end on the wrong board, a missing start
    ∷ judged text_a
    (bytes "run\t1\t2\t5\nstart\t1\t1\t0\t0\nstart\t2\t2\t0\t0\nearly\t0\t0\nend\t2\t2\t3\t1\nstart\t3\t2\t3\t1\nearly\t3\t0\nend\t1\t1\t4\t2\nearly\t4\t1\nend\t3\t2\t6\t3\nstart\t4\t1\t6\t3\nstart\t5\t2\t6\t4\nearly\t6\t3\nend\t5\t2\t8\t6\nearly\t8\t3\nend\t4\t1\t9\t3\nearly\t9\t3\nend\t4\t1\t9\t3\n")
    (bytes "1\t2\n2\t1\n3\t3\n5\t6\nrefused\t24\t4\t0\n")
    ∷ judged text_a
    (bytes "run\t1\t2\t5\nstart\t1\t1\t0\t0\nstart\t2\t2\t0\t0\nearly\t0\t0\nend\t2\t2\t3\t1\nstart\t3\t2\t3\t1\nearly\t3\t0\nend\t1\t2\t4\t2\nearly\t4\t1\nend\t3\t2\t6\t3\nstart\t4\t1\t6\t3\nstart\t5\t2\t6\t4\nearly\t6\t3\nend\t5\t2\t8\t6\nearly\t8\t3\nend\t4\t1\t9\t3\nearly\t9\t3\n")
    (bytes "1\t2\n2\t1\n3\t3\n4\t3\n5\t6\nrefused\t24\t1\t0\n")
    ∷ judged text_a
    (bytes "run\t1\t2\t5\nstart\t1\t1\t0\t0\nstart\t2\t2\t0\t0\nearly\t0\t0\nend\t2\t2\t3\t1\nearly\t3\t0\nend\t1\t1\t4\t2\nearly\t4\t1\nend\t3\t2\t6\t3\nstart\t4\t1\t6\t3\nstart\t5\t2\t6\t4\nearly\t6\t3\nend\t5\t2\t8\t6\nearly\t8\t3\nend\t4\t1\t9\t3\nearly\t9\t3\n")
    (bytes "1\t2\n2\t1\n4\t3\n5\t6\nrefused\t24\t3\t0\n")
    -- an end before its start, at its start, and one tick past the planned length, which is also a clash
    ∷ judged text_a
    (bytes "run\t1\t2\t5\nstart\t1\t1\t0\t0\nstart\t2\t2\t0\t0\nearly\t0\t0\nend\t2\t2\t3\t1\nstart\t3\t2\t3\t1\nearly\t3\t0\nend\t1\t1\t4\t2\nearly\t4\t1\nend\t3\t2\t2\t7\nstart\t4\t1\t6\t3\nstart\t5\t2\t6\t4\nearly\t6\t3\nend\t5\t2\t8\t6\nearly\t8\t3\nend\t4\t1\t9\t3\nearly\t9\t3\n")
    (bytes "1\t2\n2\t1\n3\t7\n4\t3\n5\t6\nrefused\t25\t3\t0\n")
    ∷ judged text_a
    (bytes "run\t1\t2\t5\nstart\t1\t1\t0\t0\nstart\t2\t2\t0\t0\nearly\t0\t0\nend\t2\t2\t3\t1\nstart\t3\t2\t3\t1\nearly\t3\t0\nend\t1\t1\t4\t2\nearly\t4\t1\nend\t3\t2\t3\t7\nstart\t4\t1\t6\t3\nstart\t5\t2\t6\t4\nearly\t6\t3\nend\t5\t2\t8\t6\nearly\t8\t3\nend\t4\t1\t9\t3\nearly\t9\t3\n")
    (bytes "1\t2\n2\t1\n3\t6\n4\t3\n5\t6\nrefused\t25\t3\t0\n")
    ∷ judged text_a
    (bytes "run\t1\t2\t5\nstart\t1\t1\t0\t0\nstart\t2\t2\t0\t0\nearly\t0\t0\nend\t2\t2\t3\t1\nstart\t3\t2\t3\t1\nearly\t3\t0\nend\t1\t1\t4\t2\nearly\t4\t1\nend\t3\t2\t9\t0\nstart\t4\t1\t6\t3\nstart\t5\t2\t6\t4\nearly\t6\t3\nend\t5\t2\t8\t6\nearly\t8\t3\nend\t4\t1\t9\t3\nearly\t9\t3\n")
    (bytes "1\t2\n2\t1\n3\t0\n4\t3\n5\t6\nrefused\t25\t3\t0\n")
    -- a clash by board that overlaps; by drive; and two that run one after the other against plan order, so that one is late too
    ∷ judged text_a
    (bytes "run\t1\t2\t5\nstart\t1\t1\t0\t0\nstart\t2\t2\t0\t0\nearly\t0\t0\nend\t2\t2\t3\t1\nstart\t3\t2\t2\t2\nearly\t3\t0\nend\t1\t1\t4\t2\nearly\t4\t1\nend\t3\t2\t6\t3\nstart\t4\t1\t6\t3\nstart\t5\t2\t6\t4\nearly\t6\t3\nend\t5\t2\t8\t6\nearly\t8\t3\nend\t4\t1\t9\t3\nearly\t9\t3\n")
    (bytes "1\t2\n2\t1\n3\t3\n4\t3\n5\t6\nrefused\t26\t2\t3\n")
    ∷ judged text_a
    (bytes "run\t1\t2\t5\nstart\t1\t1\t0\t0\nstart\t2\t2\t0\t0\nearly\t0\t0\nend\t2\t2\t3\t1\nstart\t3\t2\t3\t1\nearly\t3\t0\nend\t1\t1\t4\t2\nearly\t4\t1\nend\t3\t2\t6\t3\nstart\t4\t1\t5\t4\nstart\t5\t2\t6\t4\nearly\t6\t3\nend\t5\t2\t8\t6\nearly\t8\t3\nend\t4\t1\t8\t4\nearly\t9\t3\n")
    (bytes "1\t2\n2\t1\n3\t3\n4\t4\n5\t6\nrefused\t26\t3\t4\n")
    ∷ judged text_turned
    (bytes "run\t1\t1\t2\nstart\t1\t1\t0\t4\nend\t1\t1\t5\t4\nstart\t2\t1\t5\t0\nend\t2\t1\t9\t0\n")
    (bytes "1\t4\n2\t-5\nrefused\t26\t1\t2\n")
    -- a start after plan, whose end is late; one before ready, and at ready
    ∷ judged text_a
    (bytes "run\t1\t2\t5\nstart\t1\t1\t0\t0\nstart\t2\t2\t0\t0\nearly\t0\t0\nend\t2\t2\t3\t1\nstart\t3\t2\t3\t1\nearly\t3\t0\nend\t1\t1\t4\t2\nearly\t4\t1\nend\t3\t2\t6\t3\nstart\t4\t1\t6\t3\nstart\t5\t2\t11\t0\nearly\t6\t3\nend\t5\t2\t15\t0\nearly\t8\t3\nend\t4\t1\t9\t3\nearly\t9\t3\n")
    (bytes "1\t2\n2\t1\n3\t3\n4\t3\n5\t-1\nrefused\t27\t5\t0\n")
    ∷ judged text_ready
    (bytes "run\t1\t1\t2\nstart\t2\t1\t0\t0\nend\t2\t1\t1\t0\nstart\t1\t1\t1\t0\nend\t1\t1\t4\t0\n")
    (bytes "1\t2\n2\t1\nrefused\t27\t1\t0\n")
    ∷ judged text_ready
    (bytes "run\t1\t1\t2\nstart\t2\t1\t0\t0\nend\t2\t1\t1\t0\nstart\t1\t1\t2\t0\nend\t1\t1\t5\t0\n")
    (bytes "1\t1\n2\t1\naccepted\n")
    -- a refused plan text
    ∷ judged (bytes "plan\n")
    (bytes "run\t1\t2\t5\nstart\t1\t1\t0\t0\nstart\t2\t2\t0\t0\nearly\t0\t0\nend\t2\t2\t3\t1\nstart\t3\t2\t3\t1\nearly\t3\t0\nend\t1\t1\t4\t2\nearly\t4\t1\nend\t3\t2\t6\t3\nstart\t4\t1\t6\t3\nstart\t5\t2\t6\t4\nearly\t6\t3\nend\t5\t2\t8\t6\nearly\t8\t3\nend\t4\t1\t9\t3\nearly\t9\t3\n")
    (bytes "refused\t2\t1\t0\n")
    ∷ []

-- a log of empty lines
abbrev pub empty_lines : ℕ → List ℕ
empty_lines n = replicate n LF
