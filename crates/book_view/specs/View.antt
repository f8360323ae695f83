-- Lent arrays as the theory sees a plan and a book.
use Rattle.std.specs.Prelude.{ℕ, Bool, ◌||◌, List, eqb, leb, replicate}
use Rattle.laws.specs.Bits.{has}
use Rattle.laws.specs.Each.{each}
use Rattle.theory.specs.Plan.{minding}
use Rattle.theory.specs.Plan as theory-plan
use Rattle.theory.specs.Book.{book_of}
use Rattle.theory.specs.Book as theory-book
use Rattle.plan.specs.Pairs.{clash}
use Rattle.plan.specs.Task.{Task}
use Rattle.plan.specs.Value.{at, task_at}
use Rattle.plan.specs.declared.Plan.{Plan}

-- the rules of waiting: 0 is Early Start, 1 is clash
abbrev pub is_rule : ℕ → Bool
is_rule rule = leb rule 1

-- by Early Start a task minds the tasks of all boards, by clash only those that clash with it
abbrev pub minds_by : ℕ → (ℕ → Task) → ℕ → ℕ → Bool
minds_by rule task i j = eqb rule 0 || clash task i j

-- task i waits for each task j that it minds, with planned finish j ≤ planned start i
abbrev pub plan_for : ℕ → Plan → theory-plan.Plan
plan_for rule plan = minding (minds_by rule (task_at plan)) plan.tasks (at plan.ready) (at plan.begin) (at plan.finish)

-- the same by the wait sets of the tasks
abbrev pub plan_seen : ℕ → List ℕ → List ℕ → List ℕ → List ℕ → theory-plan.Plan
plan_seen tasks ready begin finish waits =
    record { tasks = tasks; ready = at ready; begin = at begin; finish = at finish; waits = λ i j. has (at waits i) j }

abbrev pub book_seen : List ℕ → List ℕ → List ℕ → List ℕ → ℕ → theory-book.Book
book_seen mark start end dropped clock = book_of (at mark) (at start) (at end) (at dropped) clock

-- f in the places of an array: places past the first n hold nothing
unfoldable pub laid : ℕ → (ℕ → ℕ) → List ℕ
laid n f = each n f (replicate 64 0)
