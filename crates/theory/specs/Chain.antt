-- Why a task started when it did: the task whose end let it start, then that one's own cause, and so on.
use Rattle.std.specs.Prelude.{Bool, not, cond, ◌&&◌, ◌||◌, List, [], ◌∷◌, ℕ, zero, suc, eqb, ltb}
use Rattle.laws.specs.Every.{any}
use Rattle.laws.specs.Scan.{scan_to}
use Rattle.theory.specs.Plan.{Plan}
use Rattle.theory.specs.Book.{Book, is_dropped, due}

-- the task whose end let it start: of those it waited for with the latest end, the lowest number; T where it waits for nobody
unfoldable pub cause : Plan → Book → ℕ → ℕ
cause plan book i =
    scan_to (λ j. plan.waits i j && eqb (book.end j) (due plan book.end i)) plan.tasks (λ j. j) 0 plan.tasks

-- a chain stops at a task started at 0, or whose ready tick, unless it is dropped, is later than all the ends it waited for, or
-- which waits for nobody
unfoldable pub stops_at : Plan → Book → ℕ → Bool
stops_at plan book i =
    eqb (book.start i) 0
    || ((not (is_dropped book.dropped i) && ltb (due plan book.end i) (plan.ready i))
    || not (any plan.tasks (plan.waits i)))

-- the task, then the chain of its cause, of so many links at most
unfoldable pub chain_to : ℕ → Plan → Book → ℕ → List ℕ
chain_to zero plan book i = []
chain_to (suc n) plan book i = i ∷ cond (stops_at plan book i) [] (chain_to n plan book (cause plan book i))

-- no chain is longer than there are tasks
abbrev pub chain_of : Plan → Book → ℕ → List ℕ
chain_of plan book i = chain_to plan.tasks plan book i
