-- The rows of request P4: timetables of small plans, refusals, and impostors of the engine.
use Rattle.std.specs.Prelude.{ℕ, zero, suc, ◌+◌, ◌-◌, Bool, true, cond, not, ◌&&◌, List, [], ◌∷◌, ◌++◌, eqb, take}
use Rattle.laws.specs.Lists.{same}
use Rattle.text.specs.Bytes.{bytes}
use Rattle.theory.specs.Book.{is_dropped}
use Rattle.theory.specs.Plan as theory-plan
use Rattle.theory.specs.Times.{start_from, start_time, lowest, bad_length, idle_drop}
use Rattle.plan.specs.Answer.{refuse, granted}
use Rattle.plan.specs.Read.{reading_of}
use Rattle.plan.specs.Value.{at}
use Rattle.plan.specs.declared.Answer.{Answer}
use Rattle.plan.specs.declared.Plan.{Plan}
use Rattle.book_view.specs.View.{plan_for}
use Rattle.book.specs.declared.Rule.{Rule}
use Rattle.book.specs.declared.Rule.TheVariants.{EarlyStart, Clash}
use Rattle.engine.specs.Timetable.{timetable_of}
use Rattle.engine.specs.declared.Lengths.{Lengths}
use Rattle.engine_write.specs.Table.{table_of}
use Rattle.tables.specs.PlanA.{text_a, plan_a}
use Rattle.tables.specs.Ready.{plan_b}
use Rattle.tables.specs.Clash.{text_c, plan_c}

-- task 1 is planned after task 2
unfoldable pub plan_turned : Plan
plan_turned = (reading_of (bytes "plan\t1\t1\t2\ntask\t1\t1\t4\t9\t-\t-\ntask\t2\t1\t0\t4\t-\t-\n")).plan

abbrev pub lengths : List ℕ → List ℕ → Lengths
lengths length dropped = record { length = length; dropped = dropped }

-- a plan by a rule, lengths and drops; code and its two numbers, then the starts and then the ends of its tasks
pub record Row : Type 0 where
  pub plan : Plan
  pub rule : Rule
  pub given : Lengths
  pub gives : List ℕ

abbrev pub times : Plan → Rule → List ℕ → List ℕ → List ℕ → Row
times plan rule length dropped gives = record { plan = plan; rule = rule; given = lengths length dropped; gives = gives }

abbrev pub numbers : Answer → List ℕ
numbers answer = answer.code ∷ answer.first ∷ answer.second ∷ []

abbrev pub answered : Row → List ℕ
answered row =
    let table = timetable_of row.plan row.rule row.given in
    numbers table.answer ++ (take row.plan.tasks table.start ++ take row.plan.tasks table.end)

unfoldable pub all_timed : List Row → Bool
all_timed [] = true
all_timed (row ∷ rows) = same (answered row) row.gives && all_timed rows

abbrev pub timed_rows : List Row
timed_rows =
    -- plan A as its log has it; full lengths; a length of 1 and of the planned length
    times plan_a EarlyStart (4 ∷ 3 ∷ 3 ∷ 3 ∷ 2 ∷ []) [] (0 ∷ 0 ∷ 0 ∷ 0 ∷ 0 ∷ 3 ∷ 6 ∷ 6 ∷ 4 ∷ 3 ∷ 6 ∷ 9 ∷ 8 ∷ [])
    ∷ times plan_a EarlyStart (6 ∷ 4 ∷ 5 ∷ 3 ∷ 4 ∷ []) [] (0 ∷ 0 ∷ 0 ∷ 0 ∷ 0 ∷ 4 ∷ 9 ∷ 9 ∷ 6 ∷ 4 ∷ 9 ∷ 12 ∷ 13 ∷ [])
    ∷ times plan_a EarlyStart (1 ∷ 4 ∷ 1 ∷ 3 ∷ 1 ∷ []) [] (0 ∷ 0 ∷ 0 ∷ 0 ∷ 0 ∷ 4 ∷ 5 ∷ 5 ∷ 1 ∷ 4 ∷ 5 ∷ 8 ∷ 6 ∷ [])
    -- 22 on both sides, the lowest task; 0 and one past the planned length
    ∷ times plan_a EarlyStart (7 ∷ 3 ∷ 3 ∷ 4 ∷ 2 ∷ []) [] (22 ∷ 1 ∷ 0 ∷ 0 ∷ 0 ∷ 0 ∷ 0 ∷ 0 ∷ 0 ∷ 0 ∷ 0 ∷ 0 ∷ 0 ∷ [])
    ∷ times plan_a EarlyStart (6 ∷ 3 ∷ 3 ∷ 0 ∷ 9 ∷ []) [] (22 ∷ 4 ∷ 0 ∷ 0 ∷ 0 ∷ 0 ∷ 0 ∷ 0 ∷ 0 ∷ 0 ∷ 0 ∷ 0 ∷ 0 ∷ [])
    -- a dropped task's length is not read, and it takes no time; a wild number among the drops is no drop
    ∷ times plan_a EarlyStart (4 ∷ 3 ∷ 99 ∷ 3 ∷ 2 ∷ []) (0 ∷ 2 ∷ 1 ∷ []) (0 ∷ 0 ∷ 0 ∷ 0 ∷ 0 ∷ 3 ∷ 4 ∷ 4 ∷ 4 ∷ 3 ∷ 3 ∷ 7 ∷ 6 ∷ [])
    -- 19, the lowest dropped task that waits for nobody; after 22
    ∷ times plan_a EarlyStart (4 ∷ 3 ∷ 3 ∷ 3 ∷ 2 ∷ []) (0 ∷ 1 ∷ 1 ∷ []) (19 ∷ 2 ∷ 0 ∷ 0 ∷ 0 ∷ 0 ∷ 0 ∷ 0 ∷ 0 ∷ 0 ∷ 0 ∷ 0 ∷ 0 ∷ [])
    ∷ times plan_a EarlyStart (4 ∷ 3 ∷ 0 ∷ 3 ∷ 2 ∷ []) (0 ∷ 1 ∷ []) (22 ∷ 3 ∷ 0 ∷ 0 ∷ 0 ∷ 0 ∷ 0 ∷ 0 ∷ 0 ∷ 0 ∷ 0 ∷ 0 ∷ 0 ∷ [])
    -- plan B with its ready ticks, task 4 dropped, and not dropped
    ∷ times plan_b EarlyStart (5 ∷ 1 ∷ 3 ∷ 5 ∷ 2 ∷ []) (0 ∷ 0 ∷ 0 ∷ 1 ∷ []) (0 ∷ 0 ∷ 0 ∷ 0 ∷ 2 ∷ 5 ∷ 8 ∷ 8 ∷ 5 ∷ 3 ∷ 8 ∷ 8 ∷ 10 ∷ [])
    ∷ times plan_b EarlyStart (5 ∷ 1 ∷ 3 ∷ 5 ∷ 2 ∷ []) [] (0 ∷ 0 ∷ 0 ∷ 0 ∷ 2 ∷ 5 ∷ 18 ∷ 23 ∷ 5 ∷ 3 ∷ 8 ∷ 23 ∷ 25 ∷ [])
    -- plan C by the clash rule as its log has it
    ∷ times plan_c Clash (9 ∷ 4 ∷ 2 ∷ 3 ∷ 3 ∷ 2 ∷ 3 ∷ 3 ∷ []) []
    (0 ∷ 0 ∷ 0 ∷ 0 ∷ 0 ∷ 0 ∷ 9 ∷ 2 ∷ 9 ∷ 5 ∷ 12 ∷ 9 ∷ 4 ∷ 2 ∷ 12 ∷ 5 ∷ 11 ∷ 8 ∷ 15 ∷ [])
    -- a plan whose numbers do not rise with its planned starts
    ∷ times plan_turned EarlyStart (5 ∷ 3 ∷ []) [] (0 ∷ 0 ∷ 0 ∷ 3 ∷ 0 ∷ 8 ∷ 3 ∷ [])
    ∷ []

-- a plan text, a lengths.txt, and what the program prints
pub record Printed : Type 0 where
  pub plan : List ℕ
  pub lengths : List ℕ
  pub prints : List ℕ

abbrev pub printed : List ℕ → List ℕ → List ℕ → Printed
printed plan lengths prints = record { plan = plan; lengths = lengths; prints = prints }

unfoldable pub all_printed : List Printed → Bool
all_printed [] = true
all_printed (row ∷ rows) = same (table_of row.plan row.lengths) row.prints && all_printed rows

abbrev pub printed_rows : List Printed
printed_rows =
    -- task 3 has a length and is dropped, task 4 takes its planned length
    printed text_a (bytes "length\t1\t4\nlength\t3\t9\nlength\t2\t3\ndrop\t3\nlength\t5\t2\n")
    (bytes "task\t1\t1\t0\t4\ntask\t2\t2\t0\t3\ntask\t3\t2\t3\t3\ntask\t4\t1\t4\t7\ntask\t5\t2\t4\t6\n")
    -- plan C by the clash rule as its log has it
    ∷ printed text_c
    (bytes "rule\tclash\nlength\t1\t9\nlength\t2\t4\nlength\t3\t2\nlength\t4\t3\nlength\t5\t3\nlength\t6\t2\nlength\t8\t3\n")
    (bytes "task\t1\t1\t0\t9\ntask\t2\t2\t0\t4\ntask\t3\t3\t0\t2\ntask\t4\t2\t9\t12\ntask\t5\t3\t2\t5\ntask\t6\t1\t9\t11\ntask\t7\t3\t5\t8\ntask\t8\t2\t12\t15\n")
    -- a second `drop` line of one task; a task past T; `rule` in line 2, and malformed; ticks over the range of a dropped task; 22 before 19
    ∷ printed text_a (bytes "drop\t3\ndrop\t3\n") (bytes "refused\t4\t2\t6\n")
    ∷ printed text_a (bytes "length\t6\t1\n") (bytes "refused\t4\t1\t8\n")
    ∷ printed text_a (bytes "length\t1\t4\nrule\tclash\n") (bytes "refused\t3\t2\t1\n")
    ∷ printed text_a (bytes "rule\tclasp\n") (bytes "refused\t3\t1\t6\n")
    ∷ printed text_a (bytes "drop\t3\nlength\t3\t1000001\n") (bytes "refused\t4\t2\t10\n")
    ∷ printed text_a (bytes "drop\t1\nlength\t3\t0\n") (bytes "refused\t22\t3\t0\n")
    ∷ printed text_a (bytes "drop\t1\n") (bytes "refused\t19\t1\t0\n")
    ∷ []

-- the impostors: each is an engine by the theory's plan, lengths and drops
abbrev pub Engine : Type 0
Engine = theory-plan.Plan → (ℕ → ℕ) → (ℕ → ℕ) → ℕ → ℕ

-- full length always
abbrev pub full_length : Engine
full_length plan length dropped = start_time plan (λ i. plan.finish i - plan.begin i) dropped

-- a dropped task that keeps its length
unfoldable pub kept_ends : ℕ → Engine
kept_ends zero plan length dropped i = 0
kept_ends (suc n) plan length dropped i = start_from plan dropped (kept_ends n plan length dropped) i + length i

abbrev pub kept_length : Engine
kept_length plan length dropped = start_from plan dropped (kept_ends plan.tasks plan length dropped)

-- ready ignored
abbrev pub unready : Engine
unready plan length dropped =
    start_time
    (record { tasks = plan.tasks; ready = λ i. 0; begin = plan.begin; finish = plan.finish; waits = plan.waits }) length dropped

-- a dropped task's ready tick read
abbrev pub drop_ready : Engine
drop_ready plan length dropped = start_time plan (λ i. cond (is_dropped dropped i) 0 (length i)) (λ i. 0)

-- by rising task number, each from the ends of lower numbers
unfoldable pub ends_by_number : ℕ → Engine
ends_by_number zero plan length dropped i = 0
ends_by_number (suc n) plan length dropped i =
    let before = ends_by_number n plan length dropped in
    cond (eqb i n) (start_from plan dropped before n + cond (is_dropped dropped n) 0 (length n)) (before i)

abbrev pub by_number : Engine
by_number plan length dropped i = start_from plan dropped (ends_by_number i plan length dropped) i

-- 19 before 22
abbrev pub drops_first : theory-plan.Plan → (ℕ → ℕ) → (ℕ → ℕ) → Answer
drops_first plan length dropped =
    let bad = lowest plan.tasks (bad_length plan length dropped) in
    let idle = lowest plan.tasks (idle_drop plan dropped) in
    cond (not (eqb idle 0)) (refuse 19 idle 0) (cond (not (eqb bad 0)) (refuse 22 bad 0) granted)

-- lengths past T read
abbrev pub past_read : theory-plan.Plan → (ℕ → ℕ) → (ℕ → ℕ) → ℕ
past_read plan length dropped = lowest 64 (bad_length plan length dropped)

-- what an impostor and the engine say of a task's start, by Early Start
abbrev pub by : Engine → Plan → Lengths → ℕ → ℕ
by engine plan given = engine (plan_for 0 plan) (at given.length) (at given.dropped)

abbrev pub ours : Plan → Lengths → ℕ → ℕ
ours plan given i = at (timetable_of plan EarlyStart given).start i

abbrev pub short : Lengths
short = lengths (4 ∷ 3 ∷ 3 ∷ 3 ∷ 2 ∷ []) []

abbrev pub third_gone : Lengths
third_gone = lengths (4 ∷ 3 ∷ 3 ∷ 3 ∷ 2 ∷ []) (0 ∷ 0 ∷ 1 ∷ [])

abbrev pub ready_gone : Lengths
ready_gone = lengths (5 ∷ 1 ∷ 3 ∷ 5 ∷ 2 ∷ []) (0 ∷ 0 ∷ 0 ∷ 1 ∷ [])
