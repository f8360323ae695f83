-- A short dialogue on plan A, each kind of line in it, and ends.txt at its bound.
use Rattle.std.specs.Prelude.{ℕ, true, List, []}
use Rattle.text.specs.Bytes.{bytes}
use Rattle.desk_turns.specs.Turns.{Turned, turn_of}
use Rattle.desk_turns.specs.declared.Morning.{Morning}
use Rattle.desk_start.specs.Start.{begun_of}
use Rattle.tables.specs.PlanA.{text_a}

-- nothing is kept yet
abbrev pub morning_a : Morning
morning_a = (begun_of text_a []).morning

-- the rule is taken once, also after questions and refused lines, and a refused line is counted as any other
abbrev pub typed : List ℕ
typed =
    bytes
    "early\nexact\nnow\ndrive\t1\nwhy\t1\nhelp\nend\t1\nrule\tclash\nrule\tclash\nend\t2\t3\nnow\ndrop\t3\ndrive\t2\nwhy\t3\nwhy\t4\ndrop\t5\nend\t1\t7\ndrive\t33"

abbrev pub printed : List ℕ
printed =
    bytes
    "early\t0\t0\nexact\t0\t0\nruns\t1\t1\t0\t6\nruns\t2\t2\t0\t4\nnow\t0\t2\ndrive\t1\t1\t5\nlink\t1\t1\t0\t-\nwhy\t1\t1\nrefused\t3\t6\t1\nrefused\t3\t7\t6\nrun\t2\t2\t5\tclash\nstart\t1\t1\t0\t0\nstart\t2\t2\t0\t0\nearly\t0\t0\nrefused\t3\t9\t1\nend\t2\t2\t3\t1\nstart\t3\t2\t3\t1\nearly\t3\t0\nruns\t1\t1\t0\t6\nruns\t3\t2\t3\t8\nnow\t3\t2\nrefused\t19\t3\t0\ndrive\t2\t3\t4\nlink\t3\t2\t3\t-\nlink\t2\t2\t0\t3\nwhy\t3\t2\nrefused\t11\t4\t0\ndrop\t5\t2\nearly\t3\t0\nrefused\t14\t1\t7\nrefused\t3\t18\t9\n"

abbrev pub kept : List ℕ
kept = bytes "rule\tclash\nend\t2\t3\ndrop\t5\n"

-- `drop`, 3 and its LF are 7 bytes
abbrev pub last_fits : Turned
last_fits = turn_of (record { book = morning_a.book; kept = 32761 }) 1 true (bytes "drop\t3")

abbrev pub last_full : Turned
last_full = turn_of (record { book = morning_a.book; kept = 32762 }) 1 true (bytes "drop\t3")

-- what is not accepted has its own refusal, room or none
abbrev pub full_refused : Turned
full_refused = turn_of (record { book = morning_a.book; kept = 32762 }) 1 true (bytes "drop\t6")

-- the rest of plan A's morning by Early Start, and questions when nobody runs: `-` for none
abbrev pub typed_to_end : List ℕ
typed_to_end = bytes "end\t2\t3\nend\t1\t4\nend\t3\t6\nend\t5\t8\nend\t4\t9\nearly\nexact\nnow\ndrive\t2\n"

abbrev pub printed_to_end : List ℕ
printed_to_end =
    bytes
    "end\t2\t2\t3\t1\nstart\t3\t2\t3\t1\nearly\t3\t0\nend\t1\t1\t4\t2\nearly\t4\t1\nend\t3\t2\t6\t3\nstart\t4\t1\t6\t3\nstart\t5\t2\t6\t4\nearly\t6\t3\nend\t5\t2\t8\t6\nearly\t8\t3\nend\t4\t1\t9\t3\nearly\t9\t0\nearly\t9\t0\nexact\t9\t-\nnow\t9\t0\ndrive\t2\t-\t-\n"

-- at clock 1 task 2, ready at 3 and planned at 5, has a start that lies ahead: it runs by `now`, and waits by `drive`
abbrev pub morning_ahead : Morning
morning_ahead =
    (begun_of (bytes "plan\t2\t2\t2\ntask\t1\t1\t0\t0\t4\te1\t-\ntask\t2\t2\t3\t5\t9\te2\t-\n") (bytes "end\t1\t1\n")).morning

abbrev pub typed_ahead : List ℕ
typed_ahead = bytes "now\ndrive\t2\ndrive\t1\nwhy\t2\nexact\n"

abbrev pub printed_ahead : List ℕ
printed_ahead = bytes "runs\t2\t2\t3\t7\nnow\t1\t1\ndrive\t2\t-\t2\ndrive\t1\t-\t-\nlink\t2\t2\t3\t-\nwhy\t2\t1\nexact\t1\t2\n"

-- what follows the last LF was never answered
abbrev pub torn_ends : List ℕ
torn_ends = bytes "end\t2\t3\nend\t1"

abbrev pub torn_log : List ℕ
torn_log = bytes "run\t1\t2\t5\nstart\t1\t1\t0\t0\nstart\t2\t2\t0\t0\nearly\t0\t0\nend\t2\t2\t3\t1\nstart\t3\t2\t3\t1\nearly\t3\t0\n"
