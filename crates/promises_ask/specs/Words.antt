-- The words of the promises about a drive sheet. Tasks are counted from 0 here, and by their numbers, from 1, in a sheet.
use Rattle.std.specs.Prelude.{ℕ, ◌+◌, ◌≤◌, ◌<◌, ◌≡◌, ◌≢◌, ◌⊎◌, true, false, length}
use mathlib.Core.List.{List, [], ◌∷◌, Memᴰ}
use Rattle.theory.specs.Words.Events.{Event}
use Rattle.text_fields.specs.Items.{drive_of, is_shared}
use Rattle.plan.specs.Answer.{refuse, granted}
use Rattle.plan.specs.Value.{at, items, task_at}
use Rattle.ask_sheet.specs.Sheet.{zero_sheet}
use Rattle.ask_sheet.specs.declared.Sheet.{Sheet}
use Rattle.book.specs.View.{plan_in}
use Rattle.book.specs.Sound.{is_sound}
use Rattle.book.specs.declared.Book.{Book}
use Rattle.book.specs.declared.BookResult.{BookResult}
use Rattle.ask_drives.specs.Sheets.{sheet_in, reported_with, dropped_with}
use Rattle.ask_drives.specs.declared.SheetResult.{SheetResult}
use Rattle.ask_drives.specs.declared.BookAndSheet.{BookAndSheet}
use Rattle.ask_drives.specs.declared.OnDrive.{OnDrive}
use Rattle.promises.specs.Ladder.{Rung, ◌when◌}
use Rattle.promises.specs.Checks.{report_checks, drop_checks}
use Rattle.promises.specs.Runs.{Waiting, Running, Dropped, start_of}

-- task k holds the drive, or holds it exclusively
abbrev pub Holds : Book → ℕ → ℕ → Type 0
Holds book drive k = (h : ℕ) × Memᴰ h (task_at (plan_in book) k).holds × (drive_of h ≡ drive)

abbrev pub Keeps : Book → ℕ → ℕ → Type 0
Keeps book drive k = (h : ℕ) × Memᴰ h (task_at (plan_in book) k).holds × (drive_of h ≡ drive) × (is_shared h ≡ false)

-- a running holder: its start is known, the clock has reached it, and it has not ended
pub record IsOn (book : Book) (drive k : ℕ) : Type 0 where
  pub task : k < book.tasks
  pub holds : Holds book drive k
  pub runs : Running book k
  pub begun : start_of book k ≤ book.clock

-- a waiting holder: it is not dropped, and its start is not known or lies past the clock
pub record Awaits (book : Book) (drive k : ℕ) : Type 0 where
  pub task : k < book.tasks
  pub holds : Holds book drive k
  pub there : Dropped book k → ⊥
  pub waits : Waiting book k ⊎ (Running book k × (book.clock < start_of book k))

-- by rising number
abbrev pub Rises : List ℕ → Type 0
Rises l = (i j : ℕ) → i < j → j < length l → at l i < at l j

-- k goes before j: it is planned to start sooner, or at the same tick and has no higher number
abbrev pub Before : Book → ℕ → ℕ → Type 0
Before book k j = (at book.begin k < at book.begin j) ⊎ ((at book.begin k ≡ at book.begin j) × (k ≤ j))

-- who is next: 0 where nobody waits, else the number of the one that goes before all that do
pub data Next (book : Book) (drive number : ℕ) : Type 0 where
  nobody : number ≡ 0 → ((k : ℕ) → Awaits book drive k → ⊥) → Next book drive number
  this :
      (k : ℕ) → number ≡ k + 1 → Awaits book drive k → ((j : ℕ) → Awaits book drive j → Before book k j) → Next book drive number

-- what is said of a drive
pub record DriveSays (book : Book) (drive : ℕ) (r : OnDrive) : Type 0 where
  pub answer : r.answer ≡ granted
  pub listed : (k : ℕ) → Memᴰ (k + 1) (items r.running) → IsOn book drive k
  pub all : (k : ℕ) → IsOn book drive k → Memᴰ (k + 1) (items r.running)
  pub rises : Rises (items r.running)
  pub next : Next book drive r.next

-- not sound, or not its sheet
abbrev pub NotOwn : Book → Sheet → Type 0
NotOwn book sheet = (is_sound book ≡ false) ⊎ (sheet ≢ sheet_in book)

pub data MakingSays (book : Book) (r : SheetResult) : Type 0 where
  made : is_sound book ≡ true → r ≡ record { answer = granted; sheet = sheet_in book } → MakingSays book r
  refused : is_sound book ≡ false → r ≡ record { answer = refuse 9 0 0; sheet = zero_sheet } → MakingSays book r

-- what a report or a drop with its sheet hands back, where `told` is what it hands back without
pub data KeepingSays (book : Book) (sheet : Sheet) (told : BookResult) (r : BookAndSheet) : Type 0 where
  taken : told.answer.code ≡ 0 → r ≡ record { result = told; sheet = sheet_in told.book } → KeepingSays book sheet told r
  refused : told.answer.code ≢ 0 → r ≡ record { result = told; sheet = sheet } → KeepingSays book sheet told r
  other :
      NotOwn book sheet → r ≡ record { result = record { answer = refuse 9 0 0; book = book }; sheet = sheet }
      → KeepingSays book sheet told r

-- the checks after the first
abbrev pub later : List Rung → List Rung
later [] = []
later (rung ∷ rest) = rest

abbrev pub report_sheet_checks : Book → Sheet → ℕ → ℕ → List Rung
report_sheet_checks book sheet task tick = 9 when NotOwn book sheet ∷ later (report_checks book task tick)

abbrev pub drop_sheet_checks : Book → Sheet → ℕ → List Rung
drop_sheet_checks book sheet task = 9 when NotOwn book sheet ∷ later (drop_checks book task)

abbrev pub asking_checks : Book → Sheet → ℕ → List Rung
asking_checks book sheet drive = 9 when NotOwn book sheet ∷ 21 when ((drive < 1) ⊎ (32 < drive)) ∷ []

-- a report or a drop with its sheet, and the sheet that a list of them leaves, refused ones among them
abbrev pub kept_told : Book → Sheet → Event → BookAndSheet
kept_told book sheet (Event.ends task tick) = reported_with book sheet task tick
kept_told book sheet (Event.drops task) = dropped_with book sheet task

unfoldable pub sheet_after : Book → Sheet → List Event → Sheet
sheet_after book sheet [] = sheet
sheet_after book sheet (event ∷ rest) = let kept = kept_told book sheet event in sheet_after kept.result.book kept.sheet rest
