-- WHO IS ON A DRIVE, AND WHO IS NEXT. Tasks are counted from 0: a sheet names task k by k + 1.
use Prim.Native.Nat.{ℕ, ◌≤◌}
use mathlib.Core.Path.{◌≡◌, refl}
use mathlib.Core.Logic.{◌≢◌, ◌⊎◌}
use mathlib.Core.Bool.{true, false}
use mathlib.Core.List.{List, [], ◌∷◌}
use lib.ListN.{length}
use Rattle.theory.specs.Words.Events.{Event}
use Rattle.plan.specs.Answer.{refuse}
use Rattle.plan.specs.Value.{at, items, is_accepted}
use Rattle.plan.specs.declared.Plan.{Plan}
use Rattle.ask_sheet.specs.declared.Sheet.{Sheet}
use Rattle.book.specs.View.{plan_in}
use Rattle.book.specs.Sound.{is_sound}
use Rattle.book.specs.Report.{reported_of}
use Rattle.book.specs.Drop.{dropped_of}
use Rattle.book.specs.declared.Book.{Book}
use Rattle.book.specs.declared.Rule.{Rule}
use Rattle.ask_drives.specs.Sheets.{sheet_in, made_of, reported_with, dropped_with, no_drive, on_drive_of, standing_in, updated_in}
use Rattle.promises.specs.Ladder.{◌when◌, Ladder}
use Rattle.promises.specs.Runs.{SizedPlan, Sized, opened_book, run_of}
use Rattle.promises.proofs.RunView.{opened-good}
use Rattle.promises_ask.specs.Words.{Keeps, IsOn, DriveSays, MakingSays, KeepingSays, report_sheet_checks, drop_sheet_checks, asking_checks, sheet_after}
use Rattle.promises_ask.proofs.Checks as checks
use Rattle.promises_ask.proofs.Drives as drives

-- every refusal number exactly when its condition holds and none before it does: 9 for a book that is not sound or a sheet that is
-- not its book's; then those of the report, of the drop, and 21 for a drive outside 1 to 32
pub making-checks : (book : Book) → Ladder (9 when (is_sound book ≡ false) ∷ []) (made_of book).answer.code
making-checks = checks.making-ladder

pub report-sheet-checks :
    (book : Book) (sheet : Sheet) (task tick : ℕ)
    → Ladder (report_sheet_checks book sheet task tick) (reported_with book sheet task tick).result.answer.code
report-sheet-checks = checks.report-ladder

pub drop-sheet-checks :
    (book : Book) (sheet : Sheet) (task : ℕ) → Ladder (drop_sheet_checks book sheet task) (dropped_with book sheet task).result.answer.code
drop-sheet-checks = checks.drop-ladder

pub asking-checks : (book : Book) (sheet : Sheet) (drive : ℕ) → Ladder (asking_checks book sheet drive) (on_drive_of book sheet drive).answer.code
asking-checks = checks.asking-ladder

-- a refused making gives a sheet of zeros
pub making-says : (book : Book) → MakingSays book (made_of book)
making-says = checks.making-says

-- answer and book are those of the report or drop itself, word for word; after an accepted one the sheet is the one worked out afresh from the
-- book after it, a refused one leaves it unchanged, and 9 hands back book and sheet as given
pub report-sheet-says :
    (book : Book) (sheet : Sheet) (task tick : ℕ) → KeepingSays book sheet (reported_of book task tick) (reported_with book sheet task tick)
report-sheet-says book sheet task tick = checks.keeping-says book sheet (reported_of book task tick)

pub drop-sheet-says :
    (book : Book) (sheet : Sheet) (task : ℕ) → KeepingSays book sheet (dropped_of book task) (dropped_with book sheet task)
drop-sheet-says book sheet task = checks.keeping-says book sheet (dropped_of book task)

-- a refused question says 0, 0 or drive, 0, and nobody
pub asking-refused :
    (book : Book) (sheet : Sheet) (drive : ℕ) → (on_drive_of book sheet drive).answer.code ≢ 0
    → (on_drive_of book sheet drive ≡ no_drive (refuse 9 0 0)) ⊎ (on_drive_of book sheet drive ≡ no_drive (refuse 21 drive 0))
asking-refused = checks.refused_says

-- the sheet of an opened book, kept through any reports and drops, is the sheet of the book that they leave
pub sheet-kept :
    (plan : Plan) (rule : Rule) → SizedPlan plan → is_accepted plan ≡ true → (events : List Event)
    → sheet_after (opened_book plan rule) (sheet_in (opened_book plan rule)) events ≡ sheet_in (run_of plan rule events)
sheet-kept plan rule size ok events = checks.sheet-along (opened_book plan rule) events (opened-good plan rule ok size)

-- the update, which looks at the drives alone whose holders run or wait otherwise than before, gives the sheet worked out afresh
pub update-is-fresh :
    (book after : Book) → plan_in after ≡ plan_in book → length book.holds ≡ 2048
    → updated_in (sheet_in book) (standing_in book) after ≡ sheet_in after
update-is-fresh = checks.renewed-fresh

module _ (book : Book) (size : Sized book) (sound : is_sound book ≡ true) where
  -- for each drive the running holders, all of them, by rising number; and the waiting holder of least planned start, lowest number if equal
  pub drive-says : (drive : ℕ) → 1 ≤ drive → drive ≤ 32 → DriveSays book drive (on_drive_of book (sheet_in book) drive)
  drive-says drive from to = checks.asking-says book (sheet_in book) (record { sized = size; sound = sound }) refl drive from to

  -- one a board, so at most eight
  pub one-a-board : (drive a b : ℕ) → IsOn book drive a → IsOn book drive b → at book.board a ≡ at book.board b → a ≡ b
  one-a-board = drives.one-a-board book (record { sized = size; sound = sound })

  pub at-most-eight : (drive : ℕ) → 1 ≤ drive → drive ≤ 32 → length (items (on_drive_of book (sheet_in book) drive).running) ≤ 8
  at-most-eight drive from to = checks.at_most book (record { sized = size; sound = sound }) drive from to

  -- one alone where the drive is held exclusively
  pub alone-on : (drive a b : ℕ) → IsOn book drive a → Keeps book drive a → IsOn book drive b → a ≡ b
  alone-on = drives.alone book (record { sized = size; sound = sound })
