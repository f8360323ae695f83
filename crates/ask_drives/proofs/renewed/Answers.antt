use Rattle.ask_drives.proofs.Keep.{renewed-by}
use Rattle.book.specs.View.{book_view}
use Rattle.ask_drives.proofs.renewed.Goals as goal

pub returns : goal.returns
returns c =
    let book = c.args.book.now in
    renewed-by book.holds book.tasks book.begin (book_view book) c.args.sheet c.args.before c.holders_of-holders.ensures c.standing.ensures c.renew_sheet.ensures
