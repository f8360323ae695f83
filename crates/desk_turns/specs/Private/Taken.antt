-- What is handed back once the answer stands in the buffer.
use Rattle.std.specs.Prelude.{ℕ, ◌+◌, true, false, cond}
use Rattle.plan.specs.Answer.{refuse, is_granted}
use Rattle.plan.specs.declared.Answer.{Answer}
use Rattle.book.specs.declared.Book.{Book}
use Rattle.desk_turns.specs.declared.Morning.{Morning}
use Rattle.desk_turns.specs.declared.Turn.{Turn}

-- nothing changes
abbrev pub unmoved : Morning → ℕ → Turn
unmoved morning length = record { morning = morning; length = length; keeps = false }

-- a line of so many bytes, where ends.txt has room for it
unfoldable pub taken_or : Morning → Answer → Book → ℕ → ℕ → Turn
taken_or morning answer book size length =
    cond (is_granted answer)
    (record { morning = record { book = book; kept = morning.kept + size + 1 }; length = length; keeps = true })
    (unmoved morning length)

-- where it has none
abbrev pub full_answer : Answer → Answer
full_answer answer = cond (is_granted answer) (refuse 1 0 0) answer
