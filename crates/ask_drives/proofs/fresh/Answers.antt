use lib.ListN.{length}
use mathlib.Core.Path.{◌≡◌}
use Rattle.ask_drives.proofs.Keep.{fresh-is}
use Rattle.book.specs.View.{book_view}
use borrow.Author.Rules.{rules}
use Rattle.ask_drives.proofs.fresh.Goals as goal

pub returns : goal.returns
returns c =
    let book = c.args.book.now in
    let l : length c.args.book.now.holds ≡ 2048 = search rules in
    fresh-is book.holds l book.tasks book.begin (book_view book) c.holders_of-holders.ensures c.standing.ensures c.fresh_sheet.ensures
