-- A drive sheet beside its book.
use Rattle.std.specs.Prelude.{ℕ, ◌-◌, Bool, not, cond, ◌&&◌, replicate}
use Rattle.text_fields.specs.Items.{between}
use Rattle.plan.specs.Answer.{refuse, granted, is_granted}
use Rattle.plan.specs.Value.{at, row}
use Rattle.plan.specs.declared.Answer.{Answer}
use Rattle.book_holders.specs.Holders.{holders_of}
use Rattle.ask_sheet.specs.Sheet.{sheet_of, zero_sheet}
use Rattle.ask_sheet.specs.Sets.{standing_of, renewed_by, same_sheet}
use Rattle.ask_sheet.specs.declared.Sheet.{Sheet}
use Rattle.ask_sheet.specs.declared.Standing.{Standing}
use Rattle.book.specs.View.{book_view}
use Rattle.book.specs.Sound.{is_sound}
use Rattle.book.specs.Report.{reported_of}
use Rattle.book.specs.Drop.{dropped_of}
use Rattle.book.specs.declared.Book.{Book}
use Rattle.book.specs.declared.BookResult.{BookResult}
use Rattle.ask_drives.specs.declared.SheetResult.{SheetResult}
use Rattle.ask_drives.specs.declared.BookAndSheet.{BookAndSheet}
use Rattle.ask_drives.specs.declared.OnDrive.{OnDrive}

-- the sheet of a book, worked out afresh
abbrev pub sheet_in : Book → Sheet
sheet_in book = sheet_of book.tasks book.holds book.begin (book_view book)

-- a sound book, and its sheet; 9 for any other
abbrev pub is_own : Book → Sheet → Bool
is_own book sheet = is_sound book && same_sheet sheet (sheet_in book)

-- making a sheet: 9, with a sheet of zeros, or the book's
unfoldable pub made_of : Book → SheetResult
made_of book =
    cond (is_sound book) (record { answer = granted; sheet = sheet_in book }) (record { answer = refuse 9 0 0; sheet = zero_sheet })

-- 9 hands back book and sheet as given; a refused report or drop leaves the sheet unchanged, after an accepted one
-- it is the sheet of the book after it
unfoldable pub kept_with : Book → Sheet → BookResult → BookAndSheet
kept_with book sheet handed =
    cond (is_own book sheet)
    (record { result = handed; sheet = cond (is_granted handed.answer) (sheet_in handed.book) sheet })
    (record { result = record { answer = refuse 9 0 0; book = book }; sheet = sheet })

-- report and drop with book and sheet
abbrev pub reported_with : Book → Sheet → ℕ → ℕ → BookAndSheet
reported_with book sheet task tick = kept_with book sheet (reported_of book task tick)

abbrev pub dropped_with : Book → Sheet → ℕ → BookAndSheet
dropped_with book sheet task = kept_with book sheet (dropped_of book task)

abbrev pub no_drive : Answer → OnDrive
no_drive answer = record { answer = answer; running = replicate 8 0; next = 0 }

-- asking: 9, then 21 for a drive outside 1 to 32, with drive and 0; else what the sheet says of the drive
unfoldable pub on_drive_of : Book → Sheet → ℕ → OnDrive
on_drive_of book sheet drive =
    cond (not (is_own book sheet)) (no_drive (refuse 9 0 0))
    (cond (not (between 1 32 drive)) (no_drive (refuse 21 drive 0))
    (record { answer = granted; running = row 8 sheet.running (drive - 1); next = at sheet.next (drive - 1) }))

-- who runs and who waits in a book
abbrev pub standing_in : Book → Standing
standing_in book = standing_of book.tasks (book_view book)

-- the update alone, for who holds a sound book: who ran and waited before, and the book after
abbrev pub updated_in : Sheet → Standing → Book → Sheet
updated_in sheet before book = renewed_by (holders_of book.holds).held book.begin before (standing_in book) sheet
