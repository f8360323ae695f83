-- One task of a plan, and the ranges and rules that its numbers and lists keep.
use Rattle.std.specs.Prelude.{ℕ, Bool, not, cond, ◌&&◌, List, map, leb, ltb, eqb}
use Rattle.text.specs.Number.{most}
use Rattle.text_fields.specs.Items.{between, has_shared, exclusive, holds_ok, after_ok}

pub record Task : Type 0 where
  pub board : ℕ
  pub ready : ℕ
  pub begin : ℕ
  pub finish : ℕ
  pub holds : List ℕ
  pub after : List ℕ

-- the task of these parts
abbrev pub task_of : ℕ → ℕ → ℕ → ℕ → List ℕ → List ℕ → Task
task_of board ready begin finish holds after =
    record { board = board; ready = ready; begin = begin; finish = finish; holds = holds; after = after }

-- the task with each shared hold exclusive
abbrev pub exclusive_task : Task → Task
exclusive_task task =
    task_of task.board task.ready task.begin task.finish (map exclusive task.holds) task.after

-- Board is 1 to B. Ready at or before planned start. Planned finish is at least planned start + 1 and at most 1,000,000
abbrev pub numbers_ok : ℕ → Task → Bool
numbers_ok boards task =
    between 1 boards task.board
    && (leb task.ready task.begin && (ltb task.begin task.finish && leb task.finish most))

abbrev pub task_ok : ℕ → ℕ → Task → Bool
task_ok boards tasks task = numbers_ok boards task && (holds_ok task.holds && after_ok tasks task.after)

-- Edition 1 is kept as ready 0; edition 2 no longer takes a shared hold
abbrev pub edition_ok : ℕ → Task → Bool
edition_ok edition task = cond (eqb edition 2) (not (has_shared task.holds)) (eqb task.ready 0)
