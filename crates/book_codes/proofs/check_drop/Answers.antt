use Rattle.book_codes.proofs.CodeLaws.{known, drop-placed, drop-none, drop-19, drop-0, drop-no-place}
use Rattle.std.proofs.lemmas.Result.{err_from_is_err_and}
use borrow.Author.Rules.{rules}
use Rattle.book_codes.proofs.check_drop.Goals as goal

pub returns-in_err-k : goal.returns-in_err-k
returns-in_err-k c =
    let p = err_from_is_err_and c.from_residual.result c.from_residual.ensures.1 in
    rw (p.1, p.2) (drop-none c.args.book.now c.args.task c.in_err-k.ensures)

pub returns-then-places-k : goal.returns-then-places-k
returns-then-places-k c =
    drop-placed c.args.book.now c.args.task c.in_ok-k.ensures
    (drop-no-place c.args.book.now c.places.ensures (search rules) _ (known c.args.book.now c.args.task c.in_ok-k.ensures) c.if-places-k.true)

pub returns-then-mark-k : goal.returns-then-mark-k
returns-then-mark-k c = drop-placed c.args.book.now c.args.task c.in_ok-k.ensures (drop-19 _ _ _ (known c.args.book.now c.args.task c.in_ok-k.ensures) c.if-mark-k.true)

pub returns : goal.returns
returns c = drop-placed c.args.book.now c.args.task c.in_ok-k.ensures (drop-0 _ _ _ (known c.args.book.now c.args.task c.in_ok-k.ensures) c.if-mark-k.false)
