-- The words of the promises about a chain. Its links are counted from 0, link 0 being the asked task, and so are tasks.
use Rattle.std.specs.Prelude.{ℕ, ◌-◌, ◌≤◌, ◌<◌, ◌≡◌, ◌⊎◌, false, List, [], ◌∷◌}
use Rattle.theory.specs.Words.Times.{ran_for}
use Rattle.plan.specs.Answer.{refuse, granted}
use Rattle.plan.specs.Value.{at}
use Rattle.book.specs.View.{book_view}
use Rattle.book.specs.Sound.{is_sound}
use Rattle.book.specs.declared.Book.{Book}
use Rattle.ask_why.specs.declared.Chain.{Chain}
use Rattle.promises.specs.Ladder.{Rung, ◌when◌}
use Rattle.promises.specs.Runs.{Waiting, Dropped, start_of, end_of, WaitsFor}

abbrev pub why_checks : Book → ℕ → List Rung
why_checks book task =
    9 when (is_sound book ≡ false)
    ∷ 10 when ((task < 1) ⊎ (book.tasks < task))
    ∷ 11 when (Waiting book (task - 1))
    ∷ []

-- A refusal says 0 and 0, or task and 0, and gives an empty chain
pub data WhySays (task : ℕ) (chain : Chain) : Type 0 where
  given : chain.answer ≡ granted → WhySays task chain
  refused :
      (chain.answer ≡ refuse 9 0 0) ⊎ ((chain.answer ≡ refuse 10 task 0) ⊎ (chain.answer ≡ refuse 11 task 0))
      → chain.count ≡ 0 → ((k : ℕ) → at chain.links k ≡ 0) → WhySays task chain

-- the task that link k names by its number
abbrev pub link_of : Chain → ℕ → ℕ
link_of chain k = at chain.links k - 1

-- of those that task i waited for with the latest end, the lowest number
pub record Cause (book : Book) (i c : ℕ) : Type 0 where
  pub task : c < book.tasks
  pub awaited : WaitsFor book i c
  pub latest : (j : ℕ) → j < book.tasks → WaitsFor book i j → end_of book j ≤ end_of book c
  pub lowest : (j : ℕ) → j < book.tasks → WaitsFor book i j → end_of book j ≡ end_of book c → c ≤ j

-- a task started at 0, or whose ready tick, unless it is dropped, is later than all the ends it waited for, or which waits for nobody
pub data StopsAt (book : Book) (i : ℕ) : Type 0 where
  started_at_0 : start_of book i ≡ 0 → StopsAt book i
  ready_later :
      (Dropped book i → ⊥) → ((j : ℕ) → j < book.tasks → WaitsFor book i j → end_of book j < at book.ready i) → StopsAt book i
  for_nobody : ((j : ℕ) → j < book.tasks → WaitsFor book i j → ⊥) → StopsAt book i

-- the link where it stops
abbrev pub last_of : Chain → ℕ
last_of chain = link_of chain (chain.count - 1)

-- the run times along it, the asked one's left out
abbrev pub ran_along : Book → Chain → ℕ
ran_along book chain = ran_for (book_view book) (link_of chain) (chain.count - 1)
