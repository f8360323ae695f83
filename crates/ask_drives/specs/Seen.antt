-- What is looked at before a report or a drop.
use Rattle.std.specs.Prelude.{cond, Result, Ok, Err}
use Rattle.book_holders.specs.Holders.{holders_of}
use Rattle.ask_sheet.specs.Sets.{same_sheet}
use Rattle.ask_sheet.specs.declared.Sheet.{Sheet}
use Rattle.book.specs.declared.Book.{Book}
use Rattle.ask_drives.specs.Sheets.{sheet_in, standing_in}
use Rattle.ask_drives.specs.declared.SheetCheck.{SheetCheck}

-- who holds each drive, and who runs and who waits; as a refusal where the sheet is not the book's
abbrev pub seen_of : Book → Sheet → Result SheetCheck SheetCheck
seen_of book sheet =
    let seen : SheetCheck = record { held = (holders_of book.holds).held; before = standing_in book } in
    cond (same_sheet sheet (sheet_in book)) (Ok seen) (Err seen)
