-- The rows of request P5: what a text is answered.
use Rattle.std.specs.Prelude.{List, [], ◌∷◌}
use Rattle.text.specs.Bytes.{bytes}
use Rattle.plan.specs.Answer.{refuse, granted}
use Rattle.tables.specs.PlanA.{text_a}
use Rattle.tables.specs.Texts.{Reads, reads}

-- cut to begin at 30,000; the only task begins at 1; 17 and 6 at once; 5, 17 and 6 at once; the least neither the first nor on
-- board 1; a task at 0 on board 2 alone; plan A
abbrev pub late_rows : List Reads
late_rows =
    reads (bytes "plan\t1\t2\t2\ntask\t1\t1\t30000\t30006\te1\t-\ntask\t2\t2\t30004\t30009\ts2\t-\n") (refuse 17 30000 0)
    ∷ reads (bytes "plan\t1\t1\t1\ntask\t1\t1\t1\t2\t-\t-\n") (refuse 17 1 0)
    ∷ reads (bytes "plan\t1\t1\t2\ntask\t1\t1\t3\t7\t-\t-\ntask\t2\t1\t5\t9\t-\t-\n") (refuse 17 3 0)
    ∷ reads (bytes "plan\t1\t1\t2\ntask\t1\t1\t3\t7\t-\t-\ntask\t2\t1\t5\t9\t-\t-\nx") (refuse 5 4 0)
    ∷ reads (bytes "plan\t1\t2\t3\ntask\t1\t1\t5\t7\t-\t-\ntask\t2\t2\t2\t4\t-\t-\ntask\t3\t1\t8\t9\t-\t-\n") (refuse 17 2 0)
    ∷ reads (bytes "plan\t1\t2\t2\ntask\t1\t1\t5\t7\t-\t-\ntask\t2\t2\t0\t4\t-\t-\n") granted
    ∷ reads text_a granted
    ∷ []
