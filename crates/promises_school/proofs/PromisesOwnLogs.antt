-- What is promised of a log that `runlog` printed.
use Prim.Native.Nat.{ℕ}
use mathlib.Core.Path.{◌≡◌, sym, subst}
use mathlib.Core.List.{List}
use Rattle.plan.specs.Answer.{granted}
use Rattle.plan.specs.Read.{reading_of}
use Rattle.log_run.specs.Log.{log_of}
use Rattle.school.specs.Tests.{judged_of}
use Rattle.school.specs.Text.{judged_log}
use Rattle.promises_school.specs.Own.{OwnLog, OwnFigures}
use Rattle.promises_school.proofs.OwnJudged as own-judged

-- Whatever the plan text and ends.txt, by either rule and edition, refused reports and drops and a last 3 or 4 among it: the log
-- that `runlog` prints of them is accepted where it has an `end` line for each task, no `drop` line and at most 32,768 bytes
pub own-log-accepted : (plan ends : List ℕ) → OwnLog plan ends → (judged_of (reading_of plan).plan (log_of plan ends)).answer ≡ granted
own-log-accepted = own-judged.own-accepted

-- and what is printed of it is for each task the figure of its own `end` line, then `accepted`
pub own-log-figures :
    (plan ends : List ℕ) → OwnLog plan ends → OwnFigures (reading_of plan).plan.tasks (log_of plan ends) (judged_log plan (log_of plan ends))
own-log-figures plan ends own =
    subst (OwnFigures (reading_of plan).plan.tasks (log_of plan ends)) (sym (own-judged.log-text plan ends own)) (own-judged.own-printed plan ends own)
