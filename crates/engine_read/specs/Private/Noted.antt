-- What the code keeps of the lines it has read.
use Rattle.std.specs.Prelude.{ℕ, ◌-◌, ◌≤◌, cond, List, length, set, Result, Ok, Err}
use Rattle.plan.specs.Answer.{is_granted}
use Rattle.plan.specs.declared.Answer.{Answer}
use Rattle.engine.specs.declared.Lengths.{Lengths}
use Rattle.engine_read.specs.Whole.{Told, given_of}
use Rattle.plan.specs.Value.{at}
use Rattle.book_view.specs.View.{laid}
use Rattle.engine_read.specs.Said.{LengthLine}
use Rattle.engine_read.specs.Said.{Length, Drop, Refused}
use Rattle.engine_read.specs.declared.LengthNotes.{LengthNotes}

-- the planned lengths
unfoldable pub planned_in : ℕ → List ℕ → List ℕ → List ℕ
planned_in tasks begin finish = laid tasks (λ i. at finish i - at begin i)

-- the arrays with one line more
abbrev pub note_of : LengthNotes → LengthLine → LengthNotes
note_of noted (Length task ticks) =
    record { length = set noted.length (task - 1) ticks; dropped = noted.dropped; known = set noted.known (task - 1) 1 }
note_of noted (Drop task) = record { length = noted.length; dropped = set noted.dropped (task - 1) 1; known = noted.known }
note_of noted (Refused code column) = noted

-- the lengths and drops that lines say, or the first refusal
abbrev pub lengths_told : ℕ → List ℕ → List ℕ → Told → Result Lengths Answer
lengths_told tasks begin finish told = cond (is_granted told.answer) (Ok (given_of tasks begin finish told.said)) (Err told.answer)

-- the line names a task
abbrev pub Names : ℕ → LengthLine → Type 0
Names tasks (Length task ticks) = (1 ≤ task) × (task ≤ tasks)
Names tasks (Drop task) = (1 ≤ task) × (task ≤ tasks)
Names tasks (Refused code column) = 0 ≤ tasks

pub record LinesFit (tasks line : ℕ) (text : List ℕ) : Type 0 where
  pub few : tasks ≤ 64
  pub begun : line ≤ 2
  pub short : length text ≤ 32768
