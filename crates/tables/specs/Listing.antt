-- Document 01's listing, its last line as request P1 has it: the whole output on plan A and its ends.
use Rattle.std.specs.Prelude.{ℕ, List}
use Rattle.text.specs.Bytes.{bytes}

abbrev pub ends_a : List ℕ
ends_a = bytes "end\t2\t3\nend\t1\t4\nend\t3\t6\nend\t5\t8\nend\t4\t9\n"

abbrev pub log_a : List ℕ
log_a =
    bytes
    "run\t1\t2\t5\nstart\t1\t1\t0\t0\nstart\t2\t2\t0\t0\nearly\t0\t0\nend\t2\t2\t3\t1\nstart\t3\t2\t3\t1\nearly\t3\t0\nend\t1\t1\t4\t2\nearly\t4\t1\nend\t3\t2\t6\t3\nstart\t4\t1\t6\t3\nstart\t5\t2\t6\t4\nearly\t6\t3\nend\t5\t2\t8\t6\nearly\t8\t3\nend\t4\t1\t9\t3\nearly\t9\t0\n"

-- and with drops among the ends, as request P9 has it
abbrev pub ends_drop : List ℕ
ends_drop = bytes "drop\t3\ndrop\t1\nend\t2\t3\nend\t1\t4\nend\t4\t7\nend\t5\t8\n"

abbrev pub log_drop : List ℕ
log_drop =
    bytes
    "run\t1\t2\t5\nstart\t1\t1\t0\t0\nstart\t2\t2\t0\t0\nearly\t0\t0\ndrop\t3\t2\nearly\t0\t0\nrefused\t19\t1\t0\nend\t2\t2\t3\t1\nskip\t3\t2\t3\t1\nearly\t3\t0\nend\t1\t1\t4\t2\nstart\t4\t1\t4\t5\nstart\t5\t2\t4\t6\nearly\t4\t5\nend\t4\t1\t7\t5\nearly\t7\t6\nend\t5\t2\t8\t6\nearly\t8\t0\n"
