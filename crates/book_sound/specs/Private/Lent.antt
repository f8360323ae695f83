-- A book where it stands, by wait sets that are lent.
use Rattle.std.specs.Prelude.{ℕ, List}
use Rattle.theory.specs.Plan.{Plan}
use Rattle.book_view.specs.View.{plan_seen}
use Rattle.book_view.specs.declared.BookView.{BookView}

-- its plan with these wait sets
abbrev pub plan_by : BookView → List ℕ → Plan
plan_by book waits = plan_seen book.plan.tasks book.plan.ready.now book.plan.begin.now book.plan.finish.now waits
