-- The rows of request P12: texts with shared holds, the converter and the second call on them; and impostors.
use Rattle.std.specs.Prelude.{ℕ, cond, List, [], ◌∷◌, eqb, replicate}
use Rattle.laws.specs.Lists.{any_of}
use Rattle.text.specs.Bytes.{bytes}
use Rattle.plan.specs.Answer.{refuse, granted}
use Rattle.plan.specs.Value.{plan_with}
use Rattle.plan.specs.Read.{reading_of, mended_of}
use Rattle.plan.specs.Convert.{exclusive_plan}
use Rattle.plan.specs.declared.Plan.{Plan}
use Rattle.plan.specs.declared.Reading.{Reading}
use Rattle.tables.specs.Texts.{Reads, reads}

-- a shared hold in edition 2, with the column of the holds field; with 18, with 4 and with 3 beside it; one that is out of range; a
-- second line misspelt; in edition 1; exclusive in edition 2
abbrev pub shared_rows : List Reads
shared_rows =
    reads (bytes "plan\t2\t1\t1\ntask\t1\t1\t0\t0\t9\te1,s2\t-\n") (refuse 20 2 16)
    ∷ reads (bytes "plan\t2\t1\t1\ntask\t1\t1\t6\t5\t9\ts2\t-\n") (refuse 20 2 16)
    ∷ reads (bytes "plan\t2\t1\t1\ntask\t1\t1\t0\t5\t5\ts2\t-\n") (refuse 4 2 14)
    ∷ reads (bytes "plan\t2\t1\t1\ntask\t1\t1\t0\t0\t9\ts2\tx\n") (refuse 3 2 19)
    ∷ reads (bytes "plan\t2\t1\t1\ntask\t1\t1\t0\t0\t9\ts33\t-\n") (refuse 4 2 16)
    ∷ reads (bytes "plan\t2\t1\t2\ntask\t1\t1\t0\t0\t9\ts2\t-\ntask\tx\n") (refuse 20 2 16)
    ∷ reads (bytes "plan\t1\t1\t1\ntask\t1\t1\t0\t9\te1,s2\t-\n") granted
    ∷ reads (bytes "plan\t2\t1\t1\ntask\t1\t1\t0\t0\t9\te1,e2\t-\n") granted
    ∷ []

-- the second call answers the same lines
abbrev pub mended_rows : List Reads
mended_rows =
    reads (bytes "plan\t2\t1\t1\ntask\t1\t1\t0\t0\t9\te1,s2\t-\n") granted
    ∷ reads (bytes "plan\t2\t1\t1\ntask\t1\t1\t6\t5\t9\ts2\t-\n") (refuse 18 2 10)
    ∷ reads (bytes "plan\t2\t1\t1\ntask\t1\t1\t0\t5\t5\ts2\t-\n") (refuse 4 2 14)
    ∷ reads (bytes "plan\t2\t1\t1\ntask\t1\t1\t0\t0\t9\ts2\tx\n") (refuse 3 2 19)
    ∷ reads (bytes "plan\t2\t1\t2\ntask\t1\t1\t0\t0\t9\ts2\t-\ntask\tx\n") (refuse 3 3 6)
    ∷ reads (bytes "plan\t2\t1\t1\ntask\t1\t1\t0\t0\t9\ts2\t-\n\n") (refuse 5 3 0)
    ∷ reads (bytes "plan\t2\t1\t1\ntask\t1\t1\t0\t1\t9\ts2\t-\n") (refuse 17 1 0)
    ∷ reads (bytes "plan\t2\t2\t2\ntask\t1\t1\t0\t0\t9\ts2\t-\ntask\t2\t2\t0\t0\t9\ts2\t-\n") (refuse 7 1 2)
    ∷ reads (bytes "plan\t1\t1\t1\ntask\t1\t1\t0\t9\te1\t-\n") (refuse 2 1 0)
    ∷ []

-- two tasks one after the other, the second with a shared hold; and two that share a drive at one time
abbrev pub text_old : List ℕ
text_old = bytes "plan\t1\t1\t2\ntask\t1\t1\t0\t4\te1,s2\t-\ntask\t2\t1\t4\t9\ts2\t1\n"

abbrev pub text_sharing : List ℕ
text_sharing = bytes "plan\t1\t2\t3\ntask\t1\t1\t0\t4\te1\t-\ntask\t2\t2\t0\t5\ts2\t-\ntask\t3\t1\t4\t9\ts2\t-\n"

-- an edition 2 text in which `s` still stands, a ready tick in it
abbrev pub text_mixed : List ℕ
text_mixed = bytes "plan\t2\t1\t2\ntask\t1\t1\t0\t0\t4\ts1\t-\ntask\t2\t1\t3\t4\t9\te2,s3\t-\n"

unfoldable pub plan_old : Plan
plan_old = (reading_of text_old).plan

unfoldable pub plan_sharing : Plan
plan_sharing = (reading_of text_sharing).plan

-- what they become
abbrev pub text_new : List ℕ
text_new = bytes "plan\t2\t1\t2\ntask\t1\t1\t0\t0\t4\te1,e2\t-\ntask\t2\t1\t0\t4\t9\te2\t1\n"

abbrev pub text_mended : List ℕ
text_mended = bytes "plan\t2\t1\t2\ntask\t1\t1\t0\t0\t4\te1\t-\ntask\t2\t1\t3\t4\t9\te2,e3\t-\n"

-- an `s` kept, and the ready ticks lost
abbrev pub kept_shared : Plan
kept_shared =
    plan_with 2 plan_old.boards plan_old.tasks plan_old.board plan_old.ready plan_old.begin plan_old.finish plan_old.holds
    plan_old.after

abbrev pub lost_ready : Plan
lost_ready =
    let plan = (mended_of text_mixed).plan in
    plan_with 2 plan.boards plan.tasks plan.board (replicate 64 0) plan.begin plan.finish plan.holds plan.after

-- the result not judged; an edition 2 plan taken
abbrev pub unjudged : Plan → Reading
unjudged plan = record { answer = granted; plan = exclusive_plan plan }

-- a line that is refused by 20 and by 18; 18 before 20
abbrev pub text_both : List ℕ
text_both = bytes "plan\t2\t1\t1\ntask\t1\t1\t6\t5\t9\ts2\t-\n"

abbrev pub ready_first : List ℕ → ℕ
ready_first codes = cond (any_of (eqb 18) codes) 18 20
