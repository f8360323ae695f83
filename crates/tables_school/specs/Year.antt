-- The rows of request P14: a log added to totals, bounds at their edges, and reports.
use Rattle.std.specs.Prelude.{ℕ, Bool, true, false, ◌&&◌, List, [], ◌∷◌, ◌++◌, take}
use Rattle.laws.specs.Lists.{same}
use Rattle.text.specs.Bytes.{bytes}
use Rattle.plan.specs.Read.{reading_of}
use Rattle.plan.specs.Value.{at, zero_plan}
use Rattle.plan.specs.declared.Plan.{Plan}
use Rattle.year_rules.specs.Totals.{boards, added_of}
use Rattle.year_rules.specs.declared.AddResult.{AddResult}
use Rattle.year_rules.specs.declared.Totals.{Totals}
use Rattle.year_write.specs.Report.{year_text}
use Rattle.tables_school.specs.Judged.{text_a}

unfoldable pub plan_a : Plan
plan_a = (reading_of text_a).plan

-- a log of plan A that is accepted, and one without its last end
abbrev pub short_a : List ℕ
short_a =
    bytes
    "run\t1\t2\t5\nstart\t1\t1\t0\t0\nend\t1\t1\t4\t2\nstart\t2\t2\t0\t0\nend\t2\t2\t3\t1\nstart\t3\t2\t3\t1\nend\t3\t2\t6\t3\nstart\t5\t2\t6\t4\nend\t5\t2\t8\t6\nstart\t4\t1\t6\t3\n"

abbrev pub log_a : List ℕ
log_a = short_a ++ bytes "end\t4\t1\t9\t3\n"

-- accepted, refused; of boards 1, 2 and so on the tasks ended, the sums, the greatest and the least
abbrev pub totals : ℕ → ℕ → List ℕ → List ℕ → List ℕ → List ℕ → Totals
totals accepted refused ended sum greatest least = record {
  accepted = accepted;
  refused = refused;
  ended = boards (at ended);
  sum = boards (at sum);
  greatest = boards (at greatest);
  least = boards (at least);
}

-- a plan and a log are added to totals: the answer's code, P11's, the two counts, and four numbers each of boards 1 and 2
pub record Row : Type 0 where
  pub before : Totals
  pub plan : Plan
  pub log : List ℕ
  pub gives : List ℕ

abbrev pub adds : Totals → Plan → List ℕ → List ℕ → Row
adds before plan log gives = record { before = before; plan = plan; log = log; gives = gives }

abbrev pub of_two : Totals → List ℕ
of_two after = take 2 after.ended ++ (take 2 after.sum ++ (take 2 after.greatest ++ take 2 after.least))

abbrev pub numbers : AddResult → List ℕ
numbers added = added.answer.code ∷ added.judged.answer.code ∷ added.totals.accepted ∷ added.totals.refused ∷ of_two added.totals

unfoldable pub all_added : List Row → Bool
all_added [] = true
all_added (row ∷ rows) = same (numbers (added_of row.before row.plan row.log)) row.gives && all_added rows

abbrev pub added_rows : List Row
added_rows =
    -- the first log, and the same once more; a refused log and one of a plan that is not accepted are counted apart
    adds (totals 0 0 [] [] [] []) plan_a log_a (0 ∷ 0 ∷ 1 ∷ 0 ∷ 2 ∷ 3 ∷ 5 ∷ 10 ∷ 3 ∷ 6 ∷ 2 ∷ 1 ∷ [])
    ∷ adds (totals 1 0 (2 ∷ 3 ∷ []) (5 ∷ 10 ∷ []) (3 ∷ 6 ∷ []) (2 ∷ 1 ∷ [])) plan_a log_a
    (0 ∷ 0 ∷ 2 ∷ 0 ∷ 4 ∷ 6 ∷ 10 ∷ 20 ∷ 3 ∷ 6 ∷ 2 ∷ 1 ∷ [])
    ∷ adds (totals 0 0 [] [] [] []) plan_a short_a (0 ∷ 24 ∷ 0 ∷ 1 ∷ 0 ∷ 0 ∷ 0 ∷ 0 ∷ 0 ∷ 0 ∷ 0 ∷ 0 ∷ [])
    ∷ adds (totals 0 0 [] [] [] []) zero_plan log_a (0 ∷ 9 ∷ 0 ∷ 1 ∷ 0 ∷ 0 ∷ 0 ∷ 0 ∷ 0 ∷ 0 ∷ 0 ∷ 0 ∷ [])
    -- where no task ended the first figure replaces the greatest and the least; elsewhere they are kept where they are better
    ∷ adds (totals 1 0 (0 ∷ 1 ∷ []) (0 ∷ 9 ∷ []) (1000000 ∷ 9 ∷ []) (1000000 ∷ 0 ∷ [])) plan_a log_a
    (0 ∷ 0 ∷ 2 ∷ 0 ∷ 2 ∷ 4 ∷ 5 ∷ 19 ∷ 3 ∷ 9 ∷ 2 ∷ 0 ∷ [])
    -- the 10,000th log, the 10,001st, and one more counted than there may be
    ∷ adds (totals 0 9999 [] [] [] []) plan_a log_a (0 ∷ 0 ∷ 1 ∷ 9999 ∷ 2 ∷ 3 ∷ 5 ∷ 10 ∷ 3 ∷ 6 ∷ 2 ∷ 1 ∷ [])
    ∷ adds (totals 1 9999 [] [] [] []) plan_a log_a (28 ∷ 0 ∷ 1 ∷ 9999 ∷ 0 ∷ 0 ∷ 0 ∷ 0 ∷ 0 ∷ 0 ∷ 0 ∷ 0 ∷ [])
    ∷ adds (totals 1 10000 [] [] [] []) plan_a log_a (9 ∷ 0 ∷ 1 ∷ 10000 ∷ 0 ∷ 0 ∷ 0 ∷ 0 ∷ 0 ∷ 0 ∷ 0 ∷ 0 ∷ [])
    -- 64 tasks a log on all boards together, and one more
    ∷ adds (totals 1 0 (60 ∷ 4 ∷ []) [] [] []) plan_a short_a (0 ∷ 24 ∷ 1 ∷ 1 ∷ 60 ∷ 4 ∷ 0 ∷ 0 ∷ 0 ∷ 0 ∷ 0 ∷ 0 ∷ [])
    ∷ adds (totals 1 0 (60 ∷ 5 ∷ []) [] [] []) plan_a short_a (9 ∷ 0 ∷ 1 ∷ 0 ∷ 60 ∷ 5 ∷ 0 ∷ 0 ∷ 0 ∷ 0 ∷ 0 ∷ 0 ∷ [])
    -- 1,000,000 ticks a task of a board, and one more; so the greatest, and the least also where no task ended
    ∷ adds (totals 1 0 (1 ∷ 1 ∷ []) (0 ∷ 1000000 ∷ []) [] []) plan_a short_a (0 ∷ 24 ∷ 1 ∷ 1 ∷ 1 ∷ 1 ∷ 0 ∷ 1000000 ∷ 0 ∷ 0 ∷ 0 ∷ 0 ∷ [])
    ∷ adds (totals 1 0 (1 ∷ 1 ∷ []) (0 ∷ 1000001 ∷ []) [] []) plan_a short_a (9 ∷ 0 ∷ 1 ∷ 0 ∷ 1 ∷ 1 ∷ 0 ∷ 1000001 ∷ 0 ∷ 0 ∷ 0 ∷ 0 ∷ [])
    ∷ adds (totals 0 0 [] [] (0 ∷ 1000001 ∷ []) []) plan_a short_a (9 ∷ 0 ∷ 0 ∷ 0 ∷ 0 ∷ 0 ∷ 0 ∷ 0 ∷ 0 ∷ 1000001 ∷ 0 ∷ 0 ∷ [])
    ∷ adds (totals 0 0 [] [] [] (1000001 ∷ [])) plan_a short_a (9 ∷ 0 ∷ 0 ∷ 0 ∷ 0 ∷ 0 ∷ 0 ∷ 0 ∷ 0 ∷ 0 ∷ 1000001 ∷ 0 ∷ [])
    -- bounds go before 28
    ∷ adds (totals 1 9999 [] (0 ∷ 1 ∷ []) [] []) plan_a short_a (9 ∷ 0 ∷ 1 ∷ 9999 ∷ 0 ∷ 0 ∷ 0 ∷ 1 ∷ 0 ∷ 0 ∷ 0 ∷ 0 ∷ [])
    ∷ []

-- names were left over or not, totals, and the report
pub record Report : Type 0 where
  pub past : Bool
  pub of : Totals
  pub prints : List ℕ

abbrev pub reports : Bool → Totals → List ℕ → Report
reports past of prints = record { past = past; of = of; prints = prints }

unfoldable pub all_reported : List Report → Bool
all_reported [] = true
all_reported (row ∷ rows) = same (year_text row.past row.of) row.prints && all_reported rows

abbrev pub report_rows : List Report
report_rows =
    -- `-` for none, also where a greatest is kept that nobody reached; `all` from the boards on which tasks ended; a sum past 32 bits
    reports false (totals 1 2 (2 ∷ 3 ∷ []) (5 ∷ 10 ∷ []) (3 ∷ 6 ∷ 7 ∷ []) (2 ∷ 1 ∷ []))
    (bytes
    "logs\t1\t2\nboard\t1\t2\t5\t3\t2\nboard\t2\t3\t10\t6\t1\nboard\t3\t0\t0\t-\t-\nboard\t4\t0\t0\t-\t-\nboard\t5\t0\t0\t-\t-\nboard\t6\t0\t0\t-\t-\nboard\t7\t0\t0\t-\t-\nboard\t8\t0\t0\t-\t-\nall\t5\t15\t6\t1\n")
    ∷ reports true (totals 10000 0 (0 ∷ 5000 ∷ []) (0 ∷ 5000000000 ∷ []) (0 ∷ 1000000 ∷ []) (0 ∷ 1000000 ∷ []))
    (bytes
    "logs\t10000\t0\nboard\t1\t0\t0\t-\t-\nboard\t2\t5000\t5000000000\t1000000\t1000000\nboard\t3\t0\t0\t-\t-\nboard\t4\t0\t0\t-\t-\nboard\t5\t0\t0\t-\t-\nboard\t6\t0\t0\t-\t-\nboard\t7\t0\t0\t-\t-\nboard\t8\t0\t0\t-\t-\nall\t5000\t5000000000\t1000000\t1000000\nrefused\t28\t0\t0\n")
    ∷ reports true (totals 10000 1 [] [] [] []) (bytes "refused\t9\t0\t0\n")
    ∷ []
