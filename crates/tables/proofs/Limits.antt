-- The rows of the limits hold.
use mathlib.Core.Path.{◌≡◌, refl}
use mathlib.Core.Bool.{true}
use mathlib.Core.List.{[]}
use Rattle.laws.specs.Lists.{all_of}
use Rattle.plan.specs.Answer.{refuse, granted}
use Rattle.plan.specs.Write.{write_answer}
use Rattle.log_run.specs.Log.{log_of}
use Rattle.tables.specs.PlanA.{text_a, plan_a}
use Rattle.tables.specs.Texts.{answered}
use Rattle.tables.specs.Limits.{empty_lines, byte_rows, log_read, log_too_long, log_unread, tick_tasks, task_rows, range_rows}
use Rattle.tables.proofs.Computing.{computing}

pub bytes-limit : all_of answered byte_rows ≡ true
unfolding computing
bytes-limit = refl

pub ends-limit :
    (log_of text_a (empty_lines 32768) ≡ log_read)
    × (log_of text_a (empty_lines 32769) ≡ log_too_long)
    × (log_of [] (empty_lines 32769) ≡ log_unread)
unfolding computing
ends-limit = (refl, refl, refl)

pub tasks-limit : all_of answered task_rows ≡ true
unfolding computing tick_tasks
tasks-limit = refl

pub ranges-limit : all_of answered range_rows ≡ true
unfolding computing
ranges-limit = refl

-- plan A's text has 103 bytes
pub room-limit : (write_answer plan_a 103 ≡ granted) × (write_answer plan_a 102 ≡ refuse 16 103 0)
unfolding computing
room-limit = (refl, refl)
