-- BookResult a book.
use Rattle.std.specs.Prelude.{ℕ, cond}
use Rattle.theory.specs.Report.{blank, opened}
use Rattle.plan.specs.Answer.{refuse, granted}
use Rattle.plan.specs.Value.{is_accepted, zero_plan}
use Rattle.plan.specs.declared.Plan.{Plan}
use Rattle.book_view.specs.View.{plan_for}
use Rattle.book.specs.View.{lay_out}
use Rattle.book.specs.declared.Book.{Book}
use Rattle.book.specs.declared.BookResult.{BookResult}
use Rattle.book.specs.declared.Rule.{Rule}
use Rattle.book.specs.declared.Rule.TheVariants.{EarlyStart, Clash}

-- how a book keeps its rule
abbrev pub rule_number : Rule → ℕ
rule_number EarlyStart = 0
rule_number Clash = 1

-- nothing is known yet
abbrev pub blank_book : ℕ → Plan → Book
blank_book rule plan = lay_out rule plan blank

-- A task that waits for nobody starts at its ready tick, even if it was planned later
unfoldable pub opened_on : Plan → Rule → Book
opened_on plan rule = lay_out (rule_number rule) plan (opened (plan_for (rule_number rule) plan))

-- 9, with a book of zeros, or the opened book
unfoldable pub opening_of : Plan → Rule → BookResult
opening_of plan rule =
    cond (is_accepted plan) (record { answer = granted; book = opened_on plan rule })
    (record { answer = refuse 9 0 0; book = blank_book 0 zero_plan })
