-- A book and its wait sets, as the chain sees them.
use Rattle.std.specs.Prelude.{ℕ, ◌-◌, ◌||◌, cond, List, eqb, ltb, Option, Some, None, Result, Ok, Err}
use Rattle.theory.specs.Plan as theory-plan
use Rattle.theory.specs.Book as theory-book
use Rattle.theory.specs.Chain.{cause, stops_at}
use Rattle.plan.specs.Value.{at}
use Rattle.book_view.specs.View.{book_seen}
use Rattle.book.specs.declared.Book.{Book}
use Rattle.ask_why.specs.Lent.{plan_before}

abbrev pub plan_by : ℕ → Book → List ℕ → theory-plan.Plan
plan_by tasks book waits = plan_before tasks book.ready book.begin waits

-- no chain asks for the clock
abbrev pub seen_in : Book → theory-book.Book
seen_in book = book_seen book.mark book.start book.end book.dropped 0
