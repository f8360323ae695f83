-- A book seen as its plan, and as the theory sees a plan and a book; and the theory's book laid out as a `Book`.
use Rattle.std.specs.Prelude.{ℕ}
use Rattle.theory.specs.Plan as theory-plan
use Rattle.theory.specs.Book as theory-book
use Rattle.plan.specs.Value.{plan_with}
use Rattle.plan.specs.declared.Plan.{Plan}
use Rattle.book_view.specs.View.{plan_for, book_seen, laid}
use Rattle.book_view.specs.declared.BookView.{BookView}
use Rattle.book.specs.declared.Book.{Book}

-- the plan that the book is on
abbrev pub plan_in : Book → Plan
plan_in book =
    plan_with book.edition book.boards book.tasks book.board book.ready book.begin book.finish book.holds
    book.after

-- with the wait sets of the book's rule
abbrev pub plan_view : Book → theory-plan.Plan
plan_view book = plan_for book.rule (plan_in book)

abbrev pub book_view : Book → theory-book.Book
book_view book = book_seen book.mark book.start book.end book.dropped book.clock

-- the book that a view shows
abbrev pub shown : BookView → Book
shown v = record {
  edition = v.plan.edition;
  boards = v.plan.boards;
  tasks = v.plan.tasks;
  rule = v.rule;
  clock = v.clock;
  board = v.plan.board.now;
  ready = v.plan.ready.now;
  begin = v.plan.begin.now;
  finish = v.plan.finish.now;
  holds = v.plan.holds.now;
  after = v.plan.after.now;
  start = v.start.now;
  end = v.end.now;
  mark = v.mark.now;
  dropped = v.dropped.now;
}

-- the theory's book in the arrays of a `Book` by a rule on a plan; places past T hold nothing
unfoldable pub lay_out : ℕ → Plan → theory-book.Book → Book
lay_out rule plan seen = record {
  edition = plan.edition;
  boards = plan.boards;
  tasks = plan.tasks;
  rule = rule;
  clock = seen.clock;
  board = plan.board;
  ready = plan.ready;
  begin = plan.begin;
  finish = plan.finish;
  holds = plan.holds;
  after = plan.after;
  start = laid plan.tasks seen.start;
  end = laid plan.tasks seen.end;
  mark = laid plan.tasks seen.mark;
  dropped = laid plan.tasks seen.dropped;
}
