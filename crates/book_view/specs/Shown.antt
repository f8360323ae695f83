-- A book where it stands, as the theory sees a plan and a book.
use Rattle.theory.specs.Plan as theory-plan
use Rattle.theory.specs.Book as theory-book
use Rattle.plan.specs.View.{viewed}
use Rattle.book_view.specs.View.{plan_for, book_seen}
use Rattle.book_view.specs.declared.BookView.{BookView}

-- its plan, with the wait sets of its rule
abbrev pub plan_shown : BookView → theory-plan.Plan
plan_shown v = plan_for v.rule (viewed v.plan)

abbrev pub book_shown : BookView → theory-book.Book
book_shown v = book_seen v.mark.now v.start.now v.end.now v.dropped.now v.clock
