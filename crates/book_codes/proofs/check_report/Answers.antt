use Rattle.book_codes.proofs.CodeLaws.{known, report-placed, report-none, code-11, code-12, code-13, code-14, code-15, code-0, not-running, none-past-all}
use Rattle.book_view.specs.Shown.{plan_shown, book_shown}
use Rattle.std.proofs.lemmas.Result.{err_from_is_err_and}
use Rattle.book_codes.proofs.check_report.Goals as goal

pub returns-in_err-k : goal.returns-in_err-k
returns-in_err-k c =
    let p = err_from_is_err_and c.from_residual.result c.from_residual.ensures.1 in
    rw (p.1, p.2) (report-none c.args.book.now c.args.task c.in_err-k.ensures c.args.tick)

pub returns-then-n-k : goal.returns-then-n-k
returns-then-n-k c =
    let its = known c.args.book.now c.args.task c.in_ok-k.ensures in
    report-placed c.args.book.now c.args.task c.in_ok-k.ensures c.args.tick (code-11 (plan_shown c.args.book.now) (book_shown c.args.book.now) c.in_ok-k.k c.args.tick its (not-running c.args.book.now c.places-n.ensures _ its c.if-n-k.true))

pub returns-then-mark-k-ne1 : goal.returns-then-mark-k-ne1
returns-then-mark-k-ne1 c =
    report-placed c.args.book.now c.args.task c.in_ok-k.ensures c.args.tick (code-11 (plan_shown c.args.book.now) (book_shown c.args.book.now) c.in_ok-k.k c.args.tick (known c.args.book.now c.args.task c.in_ok-k.ensures) c.if-mark-k-ne1.true)

pub returns-then-tick-book : goal.returns-then-tick-book
returns-then-tick-book c =
    report-placed c.args.book.now c.args.task c.in_ok-k.ensures c.args.tick
    (code-12 (plan_shown c.args.book.now) (book_shown c.args.book.now) c.in_ok-k.k c.args.tick (known c.args.book.now c.args.task c.in_ok-k.ensures) c.if-mark-k-ne1.false c.if-tick-book.true)

pub returns-then-tick-book-2 : goal.returns-then-tick-book-2
returns-then-tick-book-2 c =
    report-placed c.args.book.now c.args.task c.in_ok-k.ensures c.args.tick
    (code-13 (plan_shown c.args.book.now) (book_shown c.args.book.now) c.in_ok-k.k c.args.tick (known c.args.book.now c.args.task c.in_ok-k.ensures) c.if-mark-k-ne1.false c.if-tick-book.false c.if-tick-book-2.true)

pub returns-then-limit_of-from : goal.returns-then-limit_of-from
returns-then-limit_of-from c =
    report-placed c.args.book.now c.args.task c.in_ok-k.ensures c.args.tick
    (code-14 (plan_shown c.args.book.now) (book_shown c.args.book.now) c.in_ok-k.k c.args.tick (known c.args.book.now c.args.task c.in_ok-k.ensures) c.if-mark-k-ne1.false c.if-tick-book.false c.if-tick-book-2.false
    c.limit_of.ensures c.from.ensures c.if-limit_of-from.true)

pub returns-then-not-none_past : goal.returns-then-not-none_past
returns-then-not-none_past c =
    report-placed c.args.book.now c.args.task c.in_ok-k.ensures c.args.tick
    (code-15 (plan_shown c.args.book.now) (book_shown c.args.book.now) c.in_ok-k.k c.args.tick (known c.args.book.now c.args.task c.in_ok-k.ensures) c.if-mark-k-ne1.false c.if-tick-book.false c.if-tick-book-2.false
    c.limit_of.ensures c.from.ensures c.if-limit_of-from.false
    (none-past-all c.args.book.now c.places-n.ensures c.args.tick c.none_past.ensures) c.if-not-none_past.true)

pub returns : goal.returns
returns c =
    report-placed c.args.book.now c.args.task c.in_ok-k.ensures c.args.tick
    (code-0 (plan_shown c.args.book.now) (book_shown c.args.book.now) c.in_ok-k.k c.args.tick (known c.args.book.now c.args.task c.in_ok-k.ensures) c.if-mark-k-ne1.false c.if-tick-book.false c.if-tick-book-2.false
    c.limit_of.ensures c.from.ensures c.if-limit_of-from.false
    (none-past-all c.args.book.now c.places-n.ensures c.args.tick c.none_past.ensures) c.if-not-none_past.false)
