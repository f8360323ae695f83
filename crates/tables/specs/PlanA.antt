-- Document 01's plan A, by its text, and a book on it after some reports and drops.
use Rattle.std.specs.Prelude.{ℕ, List}
use Rattle.text.specs.Bytes.{bytes}
use Rattle.plan.specs.Read.{reading_of}
use Rattle.plan.specs.declared.Plan.{Plan}
use Rattle.theory.specs.Words.Events.{Event}
use Rattle.book.specs.declared.Book.{Book}
use Rattle.book.specs.declared.Rule.TheVariants.{EarlyStart}
use Rattle.promises.specs.Runs.{run_of}

abbrev pub text_a : List ℕ
text_a =
    bytes
    "plan\t1\t2\t5\ntask\t1\t1\t0\t6\te1\t-\ntask\t2\t2\t0\t4\t-\t-\ntask\t3\t2\t4\t9\ts2\t-\ntask\t4\t1\t9\t12\te2\t1\ntask\t5\t2\t10\t14\te1\t3\n"

unfoldable pub plan_a : Plan
plan_a = (reading_of text_a).plan

abbrev pub book_a : List Event → Book
book_a events = run_of plan_a EarlyStart events
