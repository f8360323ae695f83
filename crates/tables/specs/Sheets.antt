-- The rows of request P3: what sheets say along runs with shared holders, drops and ready ticks; and impostors.
use Rattle.std.specs.Prelude.{ℕ, ◌-◌, not, ◌&&◌, List, [], ◌∷◌, eqb}
use Rattle.laws.specs.Lists.{same}
use Rattle.text.specs.Bytes.{bytes}
use Rattle.theory.specs.Book.{book_of, waiting, running}
use Rattle.theory.specs.Figure.{has_begun}
use Rattle.plan.specs.Value.{at, row, items}
use Rattle.plan.specs.Read.{reading_of}
use Rattle.plan.specs.declared.Plan.{Plan}
use Rattle.book_holders.specs.Holders.{keeps_drive}
use Rattle.ask_sheet.specs.Sheet.{is_waiting, numbers, soonest, holders_who, sheet_of}
use Rattle.ask_sheet.specs.Sets.{same_sheet}
use Rattle.ask_sheet.specs.declared.Sheet.{Sheet}
use Rattle.book.specs.View.{book_view}
use Rattle.book.specs.declared.Book.{Book}
use Rattle.book.specs.declared.Rule.TheVariants.{EarlyStart}
use Rattle.ask_drives.specs.Sheets.{sheet_in}
use Rattle.promises.specs.Runs.{opened_book}
use Rattle.tables.specs.PlanA.{plan_a}
use Rattle.tables.specs.Walk.{end, absent, Step, told, asks}

-- what a sheet has for a drive
abbrev pub on_in : Sheet → ℕ → List ℕ
on_in sheet drive = items (row 8 sheet.running (drive - 1))

abbrev pub next_in : Sheet → ℕ → ℕ
next_in sheet drive = at sheet.next (drive - 1)

-- the book's sheet says of a drive who is on it, and who is next
abbrev pub says : ℕ → List ℕ → ℕ → Step
says drive on next = asks (λ book. same (on_in (sheet_in book) drive) on && eqb (next_in (sheet_in book) drive) next)

-- the run of plan A
abbrev pub sheet_items_a : List (List Step)
sheet_items_a =
    (says 1 (1 ∷ []) 5
    ∷ says 2 [] 3
    ∷ says 3 [] 0
    ∷ told (end 2 3)
    ∷ says 1 (1 ∷ []) 5
    ∷ says 2 (3 ∷ []) 4
    ∷ told (end 1 4)
    ∷ says 1 [] 5
    ∷ told (end 3 6)
    ∷ says 1 (5 ∷ []) 0
    ∷ says 2 (4 ∷ []) 0
    ∷ told (end 5 8)
    ∷ says 1 [] 0
    ∷ told (end 4 9)
    ∷ says 2 [] 0
    ∷ [])
    -- a dropped holder is not next
    ∷ (told (absent 3) ∷ says 2 [] 4 ∷ told (absent 4) ∷ says 2 [] 0 ∷ [])
    ∷ []

-- task, board, planned start, planned finish, holds: tasks 1 and 2 share drive 1; task 4 is planned to hold it before task 3
abbrev pub text_shared : List ℕ
text_shared =
    bytes
    "plan\t1\t2\t4\ntask\t1\t1\t0\t4\ts1\t-\ntask\t2\t2\t0\t5\ts1\t-\ntask\t3\t1\t8\t10\te1\t-\ntask\t4\t2\t6\t8\te1\t-\n"

unfoldable pub plan_shared : Plan
plan_shared = (reading_of text_shared).plan

abbrev pub shared_sheet : List (List Step)
shared_sheet =
    (says 1 (1 ∷ 2 ∷ []) 4
    ∷ told (end 1 3)
    ∷ says 1 (2 ∷ []) 4
    ∷ told (absent 4)
    ∷ says 1 (2 ∷ []) 3
    ∷ told (end 2 5)
    ∷ says 1 (3 ∷ []) 0
    ∷ [])
    ∷ []

-- task, board, ready, planned start, planned finish, holds: tasks 2 and 3 hold drive 1 and await ticks 2 and 5
abbrev pub text_awaits : List ℕ
text_awaits =
    bytes "plan\t2\t2\t3\ntask\t1\t1\t0\t0\t9\te2\t-\ntask\t2\t2\t2\t3\t6\te1\t-\ntask\t3\t2\t5\t9\t12\te1\t-\n"

unfoldable pub plan_awaits : Plan
plan_awaits = (reading_of text_awaits).plan

-- a known start past the clock waits until the clock reaches it, by the report of another task too
abbrev pub awaited_sheet : List (List Step)
awaited_sheet =
    (says 1 [] 2
    ∷ says 2 (1 ∷ []) 0
    ∷ told (end 1 3)
    ∷ says 1 (2 ∷ []) 3
    ∷ says 2 [] 0
    ∷ told (end 2 4)
    ∷ says 1 [] 3
    ∷ [])
    ∷ []

-- impostors: shared holders left out; next by task number; a dropped holder as next; a start past the clock as running; the old clock
abbrev pub exclusive_alone : Book → ℕ → List ℕ
exclusive_alone book drive = numbers book.tasks (λ k. keeps_drive book.holds drive k && has_begun (book_view book) k)

abbrev pub next_by_number : Book → ℕ → ℕ
next_by_number book drive = at (holders_who book.tasks book.holds (is_waiting (book_view book)) (drive - 1)) 0

abbrev pub next_dropped : Book → ℕ → ℕ
next_dropped book drive = soonest (at book.begin) 0 (holders_who book.tasks book.holds (waiting (at book.mark)) (drive - 1))

abbrev pub running_ahead : Book → ℕ → List ℕ
running_ahead book drive = holders_who book.tasks book.holds (running (at book.mark)) (drive - 1)

abbrev pub sheet_at_clock : ℕ → Book → Sheet
sheet_at_clock clock book =
    sheet_of book.tasks book.holds book.begin (book_of (at book.mark) (at book.start) (at book.end) (at book.dropped) clock)

abbrev pub names : (Book → List ℕ) → List ℕ → Step
names who list = asks (λ book. same (who book) list)

abbrev pub points : (Book → ℕ) → ℕ → Step
points who number = asks (λ book. eqb (who book) number)

abbrev pub shared_impostors : List (List Step)
shared_impostors =
    (names (λ book. exclusive_alone book 1) []
    ∷ points (λ book. next_by_number book 1) 3
    ∷ told (absent 4)
    ∷ points (λ book. next_dropped book 1) 4
    ∷ [])
    ∷ []

abbrev pub awaited_impostors : List (List Step)
awaited_impostors =
    (names (λ book. running_ahead book 1) (2 ∷ [])
    ∷ told (end 1 3)
    ∷ names (λ book. on_in (sheet_at_clock 0 book) 1) []
    ∷ [])
    ∷ []

-- a sheet that is not the book's: the one of the book a report earlier, and another plan's
abbrev pub is_not : Sheet → Step
is_not sheet = asks (λ book. not (same_sheet sheet (sheet_in book)))

abbrev pub other_sheets : List (List Step)
other_sheets =
    (is_not (sheet_in (opened_book plan_shared EarlyStart)) ∷ told (end 2 3) ∷ is_not (sheet_in (opened_book plan_a EarlyStart)) ∷ []) ∷ []
