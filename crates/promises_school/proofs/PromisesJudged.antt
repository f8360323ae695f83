-- JUDGING THE OTHER SCHOOLS' LOGS. Of any plan and any log that are handed in; tasks are counted from 0.
use Prim.Native.Nat.{ℕ, ◌≤◌, ◌<◌}
use mathlib.Core.Path.{◌≡◌}
use mathlib.Core.Logic.{◌↔◌}
use mathlib.Core.Bool.{true}
use mathlib.Core.List.{List, Memᴰ}
use lib.ListN.{length}
use Rattle.plan.specs.Answer.{granted}
use Rattle.plan.specs.Value.{at, is_accepted}
use Rattle.plan.specs.declared.Plan.{Plan}
use Rattle.book.specs.declared.Rule.TheVariants.{Clash}
use Rattle.engine.specs.Timetable.{timetable_of}
use Rattle.engine.specs.declared.Lengths.{Lengths}
use Rattle.school.specs.Lines.{MINUS}
use Rattle.school.specs.Tests.{judged_of}
use Rattle.school.specs.Text.{judged_text, judged_log}
use Rattle.promises.specs.Ladder.{Ladder}
use Rattle.promises_school.specs.Lines.{Reordered}
use Rattle.promises_school.specs.Judged.{AcceptedLog, judge_checks, JudgeSays, Finds, Prints, PrintsOf, LengthsOf}
use Rattle.promises_school.proofs.Checked as checked
use Rattle.promises_school.proofs.Arrays as arrays
use Rattle.promises_school.proofs.Orders as orders
use Rattle.promises_school.proofs.Printed as printed
use Rattle.promises_school.proofs.Sooner as sooner

module _ (plan : Plan) (log : List ℕ) where
  -- accepted exactly when each line has its form, each task has one start and one end on its board, each length is 1 up to planned,
  -- clashing pairs run in plan order without overlap, and no start is after plan or before ready
  pub accepted-exactly :
      is_accepted plan ≡ true
      → ((judged_of plan log).answer ≡ granted) ↔ ((start : ℕ → ℕ) × (end : ℕ → ℕ) × AcceptedLog plan log start end)
  accepted-exactly ok = (checked.accepted-is plan log, λ a. checked.accepted-of plan log a.0 a.1 a.2 ok)

  -- 9; 1; 23; then over all tasks 24, 25, 26, 27: each exactly when its condition holds and none before it does
  pub judge-checks : Ladder (judge_checks plan log) (judged_of plan log).answer.code
  judge-checks = checked.checks plan log

  -- 23 names the lowest line, 24, 25 and 27 the lowest task, 26 the first pair, the lower number first
  pub judge-says : JudgeSays plan log (judged_of plan log).answer
  judge-says = checked.says plan log

  -- what is found: the start and end of each task that has one of each, also where 24 to 27 is said
  pub judge-finds : Finds plan log (judged_of plan log)
  judge-finds = arrays.finds plan log

  -- a figure is printed for each task that has one start and one end, also where 24 to 27 is said; after 9, 1 or 23 the refusal alone
  pub judge-prints : Prints plan log (judged_of plan log).answer (judged_text plan (judged_of plan log))
  judge-prints = printed.prints plan log

  -- an accepted log has no negative figure
  pub no-negative : (judged_of plan log).answer ≡ granted → Memᴰ MINUS (judged_text plan (judged_of plan log)) → ⊥
  no-negative = printed.no_minus plan log

  module _ (start end : ℕ → ℕ) (taken : AcceptedLog plan log start end) where
    -- nobody ends later than planned
    pub never-late : (i : ℕ) → i < plan.tasks → end i ≤ at plan.finish i
    never-late = printed.ends_by plan log start end taken

    -- the order of the lines after the first does not matter
    pub any_order : (other : List ℕ) → Reordered log other → length other ≤ 32768 → AcceptedLog plan other start end
    any_order other same short = orders.in-any-order log other same plan start end short taken

    -- Of all accepted logs with the same lengths none starts or ends a task sooner than the engine by the clash rule does, which
    -- takes these lengths: the clash rule gives back the most that any school could
    pub none-sooner :
        is_accepted plan ≡ true → (given : Lengths) → LengthsOf plan start end given
        → ((timetable_of plan Clash given).answer ≡ granted)
        × ((i : ℕ) → i < plan.tasks
        → (at (timetable_of plan Clash given).start i ≤ start i) × (at (timetable_of plan Clash given).end i ≤ end i))
    none-sooner ok given own =
        (sooner.engine-takes plan ok log start end taken given own, sooner.engine-sooner plan ok log start end taken given own)

-- a refused plan text prints that refusal alone; any other is judged
pub judged-log-prints : (plan log : List ℕ) → PrintsOf plan log (judged_log plan log)
judged-log-prints = printed.prints-of
