-- The figure of a book by wait sets, as the functions answer it.
use Rattle.std.specs.Prelude.{ℕ, ◌-◌, max, cond, List, eqb, Option, Some, None, is_some, unwrap_or}
use Rattle.std.proofs.Math.Option.{none, some}
use Rattle.std.proofs.Math.Option as math
use Rattle.laws.specs.Bits.{has}
use Rattle.laws.specs.Picked.{latest}
use Rattle.theory.specs.Plan as theory-plan
use Rattle.plan.specs.Value.{at}
use Rattle.plan.specs.declared.Answer.{Answer}
use Rattle.book_view.specs.View.{plan_seen}
use Rattle.book.specs.declared.Book.{Book}
use Rattle.ask_exact.specs.declared.Exact.{Exact}

-- a figure of the theory as a value
abbrev pub handed : math.Option ℕ → Option ℕ
handed none = None
handed (some early) = Some early

-- the plan of a book by wait sets
abbrev pub plan_by : Book → List ℕ → theory-plan.Plan
plan_by book waits = plan_seen book.tasks book.ready book.begin book.finish waits
