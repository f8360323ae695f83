-- How many bytes are still to come.
use Rattle.std.specs.Prelude.{ℕ, zero, suc, ◌+◌, ◌-◌, ◌*◌, ◌≤◌, ◌≡◌, true, cond, List, eqb, length}
use Rattle.plan.specs.Value.{at, is_accepted}
use Rattle.plan.specs.declared.Plan.{Plan}
use Rattle.book.specs.declared.Book.{Book}
use Rattle.book.proofs.Sizes.{SizedPlan, Sized}
use Rattle.log_run.specs.Log.{log_most}

-- how many lines are still to come of a task: a start and an end, or the one of its skip
unfoldable pub lines_left : ℕ → ℕ → ℕ
lines_left mark dropped = cond (eqb dropped 1) (1 - mark) (2 - mark)

-- and of the tasks below n
unfoldable pub to_come : List ℕ → List ℕ → ℕ → ℕ
to_come mark dropped zero = 0
to_come mark dropped (suc n) = to_come mark dropped n + lines_left (at mark n) (at dropped n)

-- bytes that are still to come for a book's tasks, with at most 52 a line
abbrev pub room_for : Book → ℕ
room_for book = 52 * to_come book.mark book.dropped book.tasks

-- a line that is not refused by itself has 7 bytes or more, so 6 for each byte are enough for a `refused` line
abbrev pub ends_most : Book → List ℕ → ℕ
ends_most book ends = room_for book + 6 * length ends + 41

pub record EndsFit (out : List ℕ) (from : ℕ) (book : Book) (line : ℕ) (ends : List ℕ) : Type 0 where
  pub begun : line ≤ 2
  pub short : length ends ≤ 32768
  pub sized : Sized book
  pub room : from + ends_most book ends + 3432 ≤ length out

-- an accepted plan, an ends.txt that is not too long, and room for any log
pub record LogFits (plan : Plan) (ends out : List ℕ) : Type 0 where
  pub accepted : is_accepted plan ≡ true
  pub sized : SizedPlan plan
  pub short : length ends ≤ 32768
  pub long : log_most ≤ length out
