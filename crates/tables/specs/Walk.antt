-- A run walked once: reports and drops are told one after the other, and between them the book is asked.
-- Tasks are counted from 1, as everywhere in a text.
use Rattle.std.specs.Prelude.{ℕ, ◌-◌, Bool, true, not, ◌&&◌, List, [], ◌∷◌, eqb}
use Rattle.laws.specs.Lists.{all_of}
use Rattle.theory.specs.Words.Events.{Event}
use Rattle.theory.specs.Book.{waiting, running, ended}
use Rattle.plan.specs.Value.{at}
use Rattle.plan.specs.declared.Plan.{Plan}
use Rattle.book.specs.Words.Event.{answer_to, book_told}
use Rattle.book.specs.Early.{figure_of}
use Rattle.book.specs.declared.Book.{Book}
use Rattle.book.specs.declared.Rule.{Rule}
use Rattle.promises.specs.Runs.{opened_book}

-- `end`, task, tick
abbrev pub end : ℕ → ℕ → Event
end task tick = Event.ends task tick

-- `drop`, task
abbrev pub absent : ℕ → Event
absent task = Event.drops task

pub data Step : Type 0 where
  -- this is accepted, and the walk goes on with the book after it
  told : Event → Step
  -- this would be answered by this number, 0 where it would be accepted
  gives : Event → ℕ → Step
  -- M is this number
  shows : ℕ → Step
  -- this holds of the book
  asks : (Book → Bool) → Step

-- the task's start is not known
abbrev pub waits : ℕ → Step
waits task = Step.asks (λ book. waiting (at book.mark) (task - 1))

-- the task's start is known, and is this tick
abbrev pub starts : ℕ → ℕ → Step
starts task tick = Step.asks (λ book. not (waiting (at book.mark) (task - 1)) && eqb (at book.start (task - 1)) tick)

-- and it has not ended
abbrev pub runs : ℕ → ℕ → Step
runs task tick = Step.asks (λ book. running (at book.mark) (task - 1) && eqb (at book.start (task - 1)) tick)

-- the task has ended, at this tick
abbrev pub ends : ℕ → ℕ → Step
ends task tick = Step.asks (λ book. ended (at book.mark) (task - 1) && eqb (at book.end (task - 1)) tick)

-- an impostor makes this number of the book
abbrev pub makes : (Book → ℕ) → ℕ → Step
makes figure number = Step.asks (λ book. eqb (figure book) number)

-- every step of the walk holds
unfoldable pub walk : Book → List Step → Bool
walk book [] = true
walk book (Step.told event ∷ later) = eqb (answer_to book event).code 0 && walk (book_told book event) later
walk book (Step.gives event code ∷ later) = eqb (answer_to book event).code code && walk book later
walk book (Step.shows early ∷ later) = eqb (figure_of book).early early && walk book later
walk book (Step.asks holds ∷ later) = holds book && walk book later

-- each of these walks holds from the opening of the plan by the rule
abbrev pub walked_on : Plan → Rule → List (List Step) → Bool
walked_on plan rule walks = all_of (walk (opened_book plan rule)) walks
