-- The timetable of a plan by a rule.
use Rattle.std.specs.Prelude.{ℕ, cond, List}
use Rattle.theory.specs.Plan as theory-plan
use Rattle.theory.specs.Times.{start_time, end_time, bad_length, idle_drop}
use Rattle.engine.specs.Codes.{lengths_answer}
use Rattle.plan.specs.Answer.{refuse, granted, is_granted}
use Rattle.plan.specs.Value.{at, is_accepted}
use Rattle.plan.specs.declared.Answer.{Answer}
use Rattle.plan.specs.declared.Plan.{Plan}
use Rattle.book_view.specs.View.{plan_for, laid}
use Rattle.book.specs.Open.{rule_number}
use Rattle.book.specs.declared.Rule.{Rule}
use Rattle.engine.specs.declared.Lengths.{Lengths}
use Rattle.engine.specs.declared.Timetable.{Timetable}

-- 9 where the plan is not accepted; then 22, the lowest task, not dropped, whose length is outside 1 .. planned length; then 19,
-- the lowest dropped task that waits for nobody under that rule
unfoldable pub timetable_answer : Plan → Rule → Lengths → Answer
timetable_answer plan rule given =
    let seen = plan_for (rule_number rule) plan in
    cond (is_accepted plan)
    (lengths_answer plan.tasks (bad_length seen (at given.length) (at given.dropped)) (idle_drop seen (at given.dropped)))
    (refuse 9 0 0)

-- a refusal gives a timetable of zeros
abbrev pub zero_timetable : Answer → Timetable
zero_timetable answer = record { answer = answer; start = laid 0 (λ i. 0); end = laid 0 (λ i. 0) }

-- every start and end; places past T hold nothing
abbrev pub filled_timetable : theory-plan.Plan → Lengths → Timetable
filled_timetable plan given =
    let all : ((ℕ → ℕ) → (ℕ → ℕ) → ℕ → ℕ) → List ℕ = λ time. laid plan.tasks (time (at given.length) (at given.dropped)) in
    record { answer = granted; start = all (start_time plan); end = all (end_time plan) }

unfoldable pub timetable_of : Plan → Rule → Lengths → Timetable
timetable_of plan rule given =
    let answer = timetable_answer plan rule given in
    cond (is_granted answer) (filled_timetable (plan_for (rule_number rule) plan) given) (zero_timetable answer)
