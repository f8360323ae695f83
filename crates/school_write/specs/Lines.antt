-- The lines of a judged log by lent arrays.
use Rattle.std.specs.Prelude.{ℕ, Bool, cond, ◌&&◌, List, [], leb}
use Rattle.laws.specs.Every.{every}
use Rattle.text.specs.Number.{most}
use Rattle.text.specs.Put.{if_fits}
use Rattle.plan.specs.Value.{at, plan_with}
use Rattle.plan.specs.declared.Answer.{Answer}
use Rattle.plan.specs.declared.Plan.{Plan}
use Rattle.school.specs.Text.{judged_text, judged_most}
use Rattle.school.specs.declared.JudgedLog.{JudgedLog}

-- the planned finishes of so many tasks
abbrev pub finishing : ℕ → List ℕ → Plan
finishing tasks finish = plan_with 0 0 tasks [] [] [] finish [] []

-- the ends of the tasks that are known
abbrev pub ended : Answer → List ℕ → List ℕ → JudgedLog
ended answer known end = record { answer = answer; known = known; start = []; end = end }

-- every planned finish and every end is 0 to 1,000,000
abbrev pub are_ticks : ℕ → List ℕ → List ℕ → Bool
are_ticks tasks finish end = every tasks (λ i. leb (at finish i) most && leb (at end i) most)

-- what is written into a buffer of so many bytes: nothing where some text would not fit, or a tick is none
abbrev pub lines_in : ℕ → ℕ → List ℕ → List ℕ → List ℕ → Answer → List ℕ
lines_in room tasks finish known end answer =
    if_fits judged_most room (cond (are_ticks tasks finish end) (judged_text (finishing tasks finish) (ended answer known end)) [])
