-- The tests of a log, code by code over all tasks.
use Rattle.std.specs.Prelude.{ℕ, ◌+◌, ◌-◌, Bool, not, cond, ◌&&◌, ◌||◌, List, ltb, length}
use Rattle.laws.specs.Lists.{all_of, first_not}
use Rattle.theory.specs.Plan as theory-plan
use Rattle.theory.specs.Times.{bad_length}
use Rattle.plan.specs.Answer.{refuse, granted, or_else}
use Rattle.plan.specs.Pairs.{pairs_fault}
use Rattle.plan.specs.Value.{at, is_accepted}
use Rattle.plan.specs.declared.Answer.{Answer}
use Rattle.plan.specs.declared.Plan.{Plan}
use Rattle.book_view.specs.Faults.{task_fault}
use Rattle.book_view.specs.View.{plan_for, laid}
use Rattle.school.specs.Lines.{said_in}
use Rattle.school.specs.Tasks.{is_known, start_in, end_in, are_on}
use Rattle.school.specs.declared.JudgedLog.{JudgedLog}
use Rattle.school.specs.Said.{LogLine}

-- 24: a start or end missing, doubled, or on the wrong board
abbrev pub is_wrong : Plan → List LogLine → ℕ → Bool
is_wrong plan lines i = not (is_known lines i && are_on (at plan.board i) lines i)

-- the plan by the clash rule, which is rule 1
abbrev pub clash_plan : Plan → theory-plan.Plan
clash_plan = plan_for 1

-- 25: end − start is not 1 .. planned length, end before start too; no task of a log is dropped
abbrev pub is_mislong : Plan → (ℕ → ℕ) → (ℕ → ℕ) → ℕ → Bool
is_mislong plan start end = bad_length (clash_plan plan) (λ i. end i - start i) (λ i. 0)

-- b waits for a by the clash rule, and starts before a has ended
abbrev pub is_sooner : Plan → (ℕ → ℕ) → (ℕ → ℕ) → ℕ → ℕ → Bool
is_sooner plan start end b a = (clash_plan plan).waits b a && ltb (start b) (end a)

-- 26: a clashing pair that overlaps or runs against plan order
abbrev pub is_against : Plan → (ℕ → ℕ) → (ℕ → ℕ) → ℕ → ℕ → Bool
is_against plan start end a b = is_sooner plan start end a b || is_sooner plan start end b a

-- 27: a start after plan or before ready
abbrev pub is_untimely : Plan → (ℕ → ℕ) → ℕ → Bool
is_untimely plan start i = ltb (at plan.begin i) (start i) || ltb (start i) (at plan.ready i)

-- the first pair, by a, then by b
abbrev pub pair_fault : (ℕ → ℕ → Bool) → ℕ → ℕ → Answer
pair_fault test a b = cond (test a b) (refuse 26 (a + 1) (b + 1)) granted

unfoldable pub against_fault : ℕ → (ℕ → ℕ → Bool) → Answer
against_fault tasks test = pairs_fault tasks (λ a. a + 1) (pair_fault test)

-- 24 to 27, of lines that all have their form
unfoldable pub tasks_fault : Plan → List LogLine → Answer
tasks_fault plan lines =
    let start = start_in lines in
    let end = end_in lines in
    or_else (task_fault 24 plan.tasks (is_wrong plan lines))
    (or_else (task_fault 25 plan.tasks (is_mislong plan start end))
    (or_else (against_fault plan.tasks (is_against plan start end)) (task_fault 27 plan.tasks (is_untimely plan start))))

-- nothing is found of a log that is not read
abbrev pub unread : Answer → JudgedLog
unread answer = record { answer = answer; known = laid 0 (λ i. 0); start = laid 0 (λ i. 0); end = laid 0 (λ i. 0) }

-- an answer, and the start and end of each task that has one of each
abbrev pub found_in : ℕ → Answer → List LogLine → JudgedLog
found_in tasks answer lines =
    let all : (ℕ → ℕ) → List ℕ = λ tick. laid tasks (λ i. cond (is_known lines i) (tick i) 0) in
    record { answer = answer; known = all (λ i. 1); start = all (start_in lines); end = all (end_in lines) }

-- 23, with the lowest line that has not its form; then 24 to 27
unfoldable pub lines_judged : Plan → List LogLine → JudgedLog
lines_judged plan lines =
    let formed : LogLine → Bool = λ said. said.formed in
    cond (all_of formed lines) (found_in plan.tasks (tasks_fault plan lines) lines) (unread (refuse 23 (first_not formed lines + 1) 0))

-- 9 where the plan is not accepted, 1 for a log too long; then its lines
unfoldable pub judged_of : Plan → List ℕ → JudgedLog
judged_of plan log =
    cond (not (is_accepted plan)) (unread (refuse 9 0 0))
    (cond (ltb 32768 (length log)) (unread (refuse 1 0 0)) (lines_judged plan (said_in plan.boards plan.tasks log)))
